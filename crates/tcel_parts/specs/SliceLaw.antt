-- The law of slicing: the first part and then the rest do what the body does.
use Rattle.std.specs.Prelude.{◌≡◌, ℕ, ℤ, Bool, List, [], ◌++◌, length}
use Rattle.tcel_core.specs.declared.var.Var.{Var}
use Rattle.tcel_core.specs.Cells.{all_words}
use Rattle.tcel_core.specs.Frames.{state_of}
use Rattle.tcel_core.specs.Kept.{IsKeptSet}
use Rattle.tcel_core.specs.Language.{Task}
use Rattle.tcel_core.specs.Meaning.{exec}
use Rattle.tcel_core.specs.Outcome.{Memory, Outcome}
use Rattle.tcel_core.specs.Parts.{TaskParts, parts_of, slicing_of}
use Rattle.tcel_core.specs.Sound.{IsSoundTask}

-- two runs, one after the other, do what a whole one does: the first makes its events, in their blocks, the second none,
-- and they leave its inputs and its states
pub record DoTheSame (vars vars' : List Var) (whole first rest : Outcome) : Type 0 where
  pub events : first.events ≡ whole.events
  pub silent : rest.events ≡ []
  pub inputs : rest.memory.inputs ≡ whole.memory.inputs
  pub states : state_of vars' rest.memory.cells ≡ state_of vars whole.memory.cells

-- the parts mean a task's body: so they do from any words of its variables, of copies and of temporaries, and any inputs
abbrev pub MeanTheBody : Task → TaskParts → Type 0
MeanTheBody task parts =
    (cells others : List ℤ) (inputs : List (List ℤ)) → length cells ≡ all_words task.vars → length (cells ++ others) ≡ all_words parts.vars →
    let before : Memory = record { cells = cells; inputs = inputs } in
    let beside : Memory = record { cells = cells ++ others; inputs = inputs } in
    let first = exec parts.first parts.vars beside in
    DoTheSame task.vars parts.vars (exec task.body task.vars before) first (exec parts.rest parts.vars first.memory)

-- the parts of a checked task by its kept set mean its body
abbrev pub PartsMeanTheBody : Type 0
PartsMeanTheBody = (task : Task) (kept : ℕ → Bool) → IsSoundTask task → IsKeptSet task.body kept → MeanTheBody task (parts_of (slicing_of task kept))
