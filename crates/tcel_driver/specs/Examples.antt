-- Worked examples: a task that has time only sliced, and one that never has.
use Rattle.std.specs.Prelude.{ℕ, [], ◌∷◌, codes}
use Rattle.tcel_num.specs.Plan.{Plan, frame}
use Rattle.tcel_core.specs.Examples.{one}
use Rattle.tcel_core.specs.Language.{Block, Task, choice, done, next}
use Rattle.tcel_core.specs.Parts.{TaskParts}

-- if true { }
abbrev pub branching : Block
branching = next (choice 0 one done done) done

-- it so often
abbrev pub branching_task : ℕ → Task
branching_task period =
    record {
      name = codes "t";
      priority = 1;
      period = period;
      deadline = period;
      vars = [];
      inputs = [];
      outputs = [];
      body = branching;
    }

-- it has no event, so nothing is kept and nothing is left to do
abbrev pub branching_parts : TaskParts
branching_parts = record { first = done; rest = done; vars = []; words = 0 }

-- as a whole a test, a branch, a mark and an end
abbrev pub branching_whole : ℕ → Plan
branching_whole period =
    record { period = period; total = 4; points = record { prefix = 3; bound = period; name = frame } ∷ [] }

-- sliced a mark and an end
abbrev pub branching_sliced : ℕ → Plan
branching_sliced period =
    record { period = period; total = 2; points = record { prefix = 1; bound = period; name = frame } ∷ [] }
