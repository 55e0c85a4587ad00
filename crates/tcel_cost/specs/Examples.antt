-- Worked examples.
use Rattle.std.specs.Prelude.{ℕ, pos, true, List, [], ◌∷◌, ◌++◌, Some, codes}
use Rattle.tcel_num.specs.declared.op.Op.TheVariants as ops
use Rattle.tcel_num.specs.Plan.{Plan, frame, before, within}
use Rattle.tcel_core.specs.declared.var.Var.{Var}
use Rattle.tcel_core.specs.declared.var.VarKind.{VarKind}
use Rattle.tcel_core.specs.declared.var.Keep.{Keep}
use Rattle.tcel_core.specs.Examples.{counter, counter_vars, int_var, one, plus}
use Rattle.tcel_core.specs.Language.{number, variable, binary, Block, done, next, item, choice, timed, assign, receive, send, copy, Task}
use Rattle.tcel_core.specs.Parts.{TaskParts}
use Rattle.tcel_core.specs.SlicingExamples.{added_var, branch_body, branch_first, branch_rest, branch_task, branch_vars, step_body, step_first, step_rest, step_vars}
use Rattle.tcel_cost.specs.Forms.{Form, whole_form}

-- n, y and x
abbrev pub branching_vars : List Var
branching_vars =
    record { name = Some (codes "n"); kind = VarKind.Int; keep = Keep.State; first = pos 0 }
    ∷ record { name = Some (codes "y"); kind = VarKind.Int; keep = Keep.State; first = pos 0 }
    ∷ record { name = Some (codes "x"); kind = VarKind.Int; keep = Keep.Local; first = pos 0 } ∷ []

-- receive x from s; if x > 0 { y := x; send y to o; } else { y := 5; n := n + y; } y := 7; send y to o;
abbrev pub branching_body : Block
branching_body =
    next (item 0 (receive 2 0))
    (next
    (choice 0 (binary ops.Greater (variable 2) (number (pos 0)))
    (next (item 1 (assign 1 (variable 2))) (next (item 2 (send (variable 1) 0)) done))
    (next (item 3 (assign 1 (number (pos 5)))) (next (item 4 (assign 0 (binary ops.Add (variable 0) (variable 1)))) done)))
    (next (item 5 (assign 1 (number (pos 7)))) (next (item 6 (send (variable 1) 0)) done)))

-- receive x from s; send x to o;
abbrev pub passing_body : Block
passing_body = next (item 0 (receive 0 0)) (next (item 1 (send (variable 0) 0)) done)

-- a task of period 10 and deadline 9: do start after 3, start before 5, finish within 6 { receive x from s; send x to o; }
abbrev pub windowed_task : Task
windowed_task =
    record {
      name = codes "t";
      priority = 2;
      period = 10;
      deadline = 9;
      vars = record { name = Some (codes "x"); kind = VarKind.Int; keep = Keep.Local; first = pos 0 } ∷ [];
      inputs = codes "s" ∷ [];
      outputs = codes "o" ∷ [];
      body = next (timed 1 (record { after = Some 3; before = Some 5; within = Some 6 }) passing_body) done;
    }

-- its plan at one cycle an instruction: the block is entered at count 3 at the latest, and its events are at 4 and 6
abbrev pub windowed_plan : Plan
windowed_plan =
    record {
      period = 10;
      total = 8;
      points =
          record { prefix = 7; bound = 9; name = frame } ∷ record { prefix = 4; bound = 5; name = before 1 }
          ∷ record { prefix = 6; bound = 6; name = within 1 } ∷ [];
    }

-- ---- two tasks, of which the higher waits in a block

-- send n to o; each 20 ticks, with n = 7
abbrev pub telling_task : Task
telling_task =
    record {
      name = codes "u";
      priority = 1;
      period = 20;
      deadline = 20;
      vars = record { name = Some (codes "n"); kind = VarKind.Int; keep = Keep.State; first = pos 7 } ∷ [];
      inputs = [];
      outputs = codes "o" ∷ [];
      body = next (item 0 (send (variable 0) 0)) done;
    }

abbrev pub telling_plan : Plan
telling_plan = record { period = 20; total = 4; points = record { prefix = 3; bound = 20; name = frame } ∷ [] }

abbrev pub pair : List Task
pair = windowed_task ∷ telling_task ∷ []

-- together they use every tick
abbrev pub pair_plans : List Plan
pair_plans = windowed_plan ∷ telling_plan ∷ []

-- ---- a task that is sliced

-- receive x from s; send x to o; each 10 ticks, within 4; and behind it n := n + 1;
abbrev pub sliced_counter : Form
sliced_counter =
    record {
      task = record counter { deadline = 4 };
      sliced = true;
      parts =
          record {
            first = next (item 0 (receive 1 0)) (next (item 1 (send (variable 1) 0)) done);
            rest = next (item 2 (assign 0 (plus 0 one))) done;
            vars = counter_vars;
            words = 2;
          };
    }

-- its events are behind it at 3, and the rest takes 4 cycles
abbrev pub sliced_counter_plan : Plan
sliced_counter_plan = record { period = 10; total = 9; points = record { prefix = 4; bound = 4; name = frame } ∷ [] }

-- ---- a rest that runs past its period

-- send 1 to o; each 30 ticks
abbrev pub rare_task : Task
rare_task =
    record {
      name = codes "hi";
      priority = 2;
      period = 30;
      deadline = 30;
      vars = [];
      inputs = [];
      outputs = codes "o" ∷ [];
      body = next (item 0 (send one 0)) done;
    }

-- receive x from s; y := x; each 6 ticks
abbrev pub often_task : Task
often_task =
    record {
      name = codes "lo";
      priority = 1;
      period = 6;
      deadline = 6;
      vars = int_var (codes "y") Keep.State ∷ int_var (codes "x") Keep.Local ∷ [];
      inputs = codes "s" ∷ [];
      outputs = [];
      body = next (item 0 (receive 1 0)) (next (item 1 (assign 0 (variable 1))) done);
    }

-- with its assignment left for the rest
abbrev pub sliced_often : Form
sliced_often =
    record {
      task = often_task;
      sliced = true;
      parts =
          record {
            first = next (item 0 (receive 1 0)) done;
            rest = next (item 1 (assign 0 (variable 1))) done;
            vars = often_task.vars;
            words = 2;
          };
    }

abbrev pub overrunning : List Form
overrunning = whole_form rare_task ∷ sliced_often ∷ []

-- the higher task's frame, and the lower one's mark behind its receive
abbrev pub overrunning_plans : List Plan
overrunning_plans =
    record { period = 30; total = 4; points = record { prefix = 3; bound = 30; name = frame } ∷ [] }
    ∷ record { period = 6; total = 5; points = record { prefix = 2; bound = 6; name = frame } ∷ [] } ∷ []

-- the same tasks as a whole, where the lower one's mark is behind its assignment
abbrev pub late_plans : List Plan
late_plans =
    record { period = 30; total = 4; points = record { prefix = 3; bound = 30; name = frame } ∷ [] }
    ∷ record { period = 6; total = 5; points = record { prefix = 4; bound = 6; name = frame } ∷ [] } ∷ []

-- ---- tasks of which slicing copies values

-- a task of the worked bodies of slicing, each 30 ticks
abbrev pub worked_task : List Var → Block → Task
worked_task vars body = record branch_task { vars = vars; body = body }

-- its form by its parts
abbrev pub worked_form : List Var → Block → TaskParts → Form
worked_form vars body parts = record { task = worked_task vars body; sliced = true; parts = parts }

-- its plan, without a block
abbrev pub worked_plan : ℕ → ℕ → Plan
worked_plan prefix total = record { period = 30; total = total; points = record { prefix = prefix; bound = 30; name = frame } ∷ [] }

-- receive x from s; n := n + x; x := x + 1; send x to o; with the second statement left for the rest, and x a local
abbrev pub sliced_step : Form
sliced_step =
    worked_form (step_vars Keep.Local) step_body
    (record {
      first = step_first;
      rest = step_rest;
      vars = step_vars Keep.Local ++ (added_var VarKind.Int ∷ added_var VarKind.Int ∷ []);
      words = 4;
    })

-- the same where x is a state, so that its last value is handed on too
abbrev pub sliced_state_step : Form
sliced_state_step =
    worked_form (step_vars Keep.State) step_body
    (record {
      first =
          next (item 0 (receive 2 0))
          (next (item 0 (copy 2 3))
          (next (item 2 (assign 2 (plus 2 one))) (next (item 0 (copy 2 4)) (next (item 3 (send (variable 2) 0)) done))));
      rest =
          next (item 0 (copy 3 1)) (next (item 1 (assign 0 (plus 0 (variable 1)))) (next (item 0 (copy 4 1)) done));
      vars = step_vars Keep.State ++ (added_var VarKind.Int ∷ added_var VarKind.Int ∷ added_var VarKind.Int ∷ []);
      words = 5;
    })

-- receive x from s; if x > 0 { y := x; send y to o; } else { y := 5; n := n + y; } y := 7; send y to o; with the `if` in both parts
abbrev pub sliced_branch : Form
sliced_branch =
    worked_form branch_vars branch_body
    (record {
      first = branch_first;
      rest = branch_rest;
      vars = branch_vars ++ (added_var VarKind.Int ∷ added_var VarKind.Int ∷ added_var VarKind.Bool ∷ []);
      words = 6;
    })

-- the three, and the first and the last as a whole
abbrev pub worked_forms : List Form
worked_forms =
    sliced_step ∷ sliced_state_step ∷ sliced_branch ∷ whole_form (worked_task (step_vars Keep.Local) step_body)
    ∷ whole_form (worked_task branch_vars branch_body) ∷ []

abbrev pub worked_plans : List Plan
worked_plans = worked_plan 10 17 ∷ worked_plan 12 21 ∷ worked_plan 18 29 ∷ worked_plan 12 13 ∷ worked_plan 16 17 ∷ []
