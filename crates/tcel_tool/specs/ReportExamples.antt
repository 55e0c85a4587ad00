-- Worked lines of a report.
use Rattle.std.specs.Prelude.{ℕ, false, List, [], ◌∷◌, ◌++◌, codes}
use Rattle.tcel_core.specs.Examples.{alarm, counter}
use Rattle.tcel_demand.specs.declared.plan.Worst.{Worst}
use Rattle.tcel_num.specs.Plan.{Plan, frame, within}
use Rattle.tcel_target.specs.Costs.{unit_costs}
use Rattle.tcel_tool.specs.Report.{points_text, task_line}
use Rattle.tcel_tool.specs.SetChoice.{Choice}

-- a plan with two points, the greatest response of each, and its text
abbrev pub plan : Plan
plan =
    record {
      period = 40;
      total = 14;
      points = record { prefix = 13; bound = 40; name = frame } ∷ record { prefix = 12; bound = 30; name = within 1 } ∷ [];
    }

abbrev pub worst : List Worst
worst = record { frame = 0; response = 29 } ∷ record { frame = 3; response = 24 } ∷ []

abbrev pub plan_text : List ℕ
plan_text = task_line (codes "lo") false plan ++ points_text worst 0 plan.points

abbrev pub wanted_text : List ℕ
wanted_text =
    codes "task lo whole period 40 total 14\npoint frame prefix 13 bound 40 worst 29 frame 0\n"
    ++ codes "point within 1 prefix 12 bound 30 worst 24 frame 3\n"

-- a set of which the last task is sliced
abbrev pub last_sliced : Choice
last_sliced = record { set = counter ∷ alarm ∷ []; costs = unit_costs; sliced = 1; plans = []; parts = [] }
