-- When lines are those of a trace that meets a set.
use Rattle.std.specs.Prelude.{◌≡◌, ◌≢◌, ℕ, ℤ, List, length, map, AllPairs, Some, slice_get}
use Rattle.std.specs.List.{AllZip}
use Rattle.tcel_num.specs.Entry.{Entry}
use Rattle.tcel_num.specs.Plan.{Plan}
use Rattle.tcel_core.specs.Language.{Task}
use Rattle.tcel_core.specs.Meets.{Meets}
use Rattle.tcel_trace.specs.declared.trace_line.TraceLine.{TraceLine}
use Rattle.tcel_judge.specs.FirstBreach.{shown_of}

-- the line is that of an entry of these tasks
pub record IsLineOf (set : List Task) (entry : Entry) (line : TraceLine) : Type 0 where
  pub task : Task
  pub there : slice_get set entry.task ≡ Some task
  pub is : line ≡ record { time = entry.time; task = task.name; frame = entry.frame; what = shown_of task entry.what }

-- the lines are those of the entries of a trace, which meets the set
pub record Show (set : List Task) (plans : List Plan) (streams : List (List (List ℤ))) (ticks : ℕ) (lines : List TraceLine) : Type 0 where
  pub trace : List Entry
  pub shown : AllZip (IsLineOf set) trace lines
  pub meets : Meets set plans streams ticks trace

-- no two tasks have one name, and each has a plan
pub record IsPlanned (set : List Task) (plans : List Plan) : Type 0 where
  pub apart : AllPairs ◌≢◌ (map (λ (task : Task). task.name) set)
  pub each : length plans ≡ length set
