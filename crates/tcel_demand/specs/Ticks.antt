-- One tick of the demand schedule.
use Rattle.std.specs.Prelude.{◌≡◌, ℕ, ◌+◌, ◌<◌, List, Some, slice_get}
use Rattle.tcel_num.specs.Plan.{Plan}
use Rattle.tcel_num.specs.Schedule.{released, served}

-- the schedule of these plans after so many ticks
pub record Schedule : Type 0 where
  pub plans : List Plan
  pub ticks : ℕ

-- one tick later
abbrev pub after : Schedule → Schedule
after schedule = record schedule { ticks = schedule.ticks + 1 }

-- at this time the task has cycles to do
pub record IsPending (plans : List Plan) (time task : ℕ) : Type 0 where
  pub plan : Plan
  pub of_task : slice_get plans task ≡ Some plan
  pub some : served plans time task < released plan time

-- no task has
abbrev pub IsIdle : List Plan → ℕ → Type 0
IsIdle plans time = (task : ℕ) → IsPending plans time task → ⊥

-- the tick from this time on serves the task: it is the highest that has
pub record Serves (plans : List Plan) (time task : ℕ) : Type 0 where
  pub pending : IsPending plans time task
  pub highest : (higher : ℕ) → higher < task → IsPending plans time higher → ⊥
