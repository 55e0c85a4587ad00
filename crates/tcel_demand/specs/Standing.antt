-- What the state of the running demand schedule says.
use Rattle.std.specs.Prelude.{◌≡◌, ℕ, suc, ◌+◌, ◌*◌, ◌^◌, ◌<◌, ◌≤◌, List, Some, length, slice_get, slice_index}
use Rattle.tcel_demand.specs.Sound.{AreSound}
use Rattle.tcel_demand.specs.Ticks.{Schedule, Serves}
use Rattle.tcel_demand.specs.declared.demand.Demand.TheInside.{Inside}
use Rattle.tcel_demand.specs.declared.step.Step.{Step}
use Rattle.tcel_num.specs.Plan.{Plan}
use Rattle.tcel_num.specs.Schedule.{served}

-- so many frames of the task are done, and so many cycles of the next one, which is released at the start
pub record IsAt (plans : List Plan) (time task : ℕ) (plan : Plan) (frames cycles start : ℕ) : Type 0 where
  pub done : served plans time task ≡ frames * plan.total + cycles
  pub part : cycles < plan.total
  pub begun : start ≡ frames * plan.period
  pub soon : start ≤ time + plan.period

pub record IsStanding (a : Inside) : Type 0 where
  pub sound : AreSound a.plans.now
  pub ticks : a.ticks ≤ 10 ^ 12
  pub frames : length a.frames ≡ 16
  pub cycles : length a.cycles ≡ 16
  pub starts : length a.starts ≡ 16
  pub each : (task : ℕ) (plan : Plan) → slice_get a.plans.now task ≡ Some plan →
      IsAt a.plans.now a.ticks task plan (slice_index a.frames task) (slice_index a.cycles task) (slice_index a.starts task)

abbrev pub schedule_of : Inside → Schedule
schedule_of a = record { plans = a.plans.now; ticks = a.ticks }

-- the tick from this time on serves the task, and this is where it then is in its frame
pub record IsStep (plans : List Plan) (time : ℕ) (step : Step) : Type 0 where
  pub serves : Serves plans time step.task
  pub plan : Plan
  pub of_task : slice_get plans step.task ≡ Some plan
  pub some : 0 < step.cycles
  pub within : step.cycles ≤ plan.total
  pub before : served plans time step.task + 1 ≡ step.frame * plan.total + step.cycles
  pub done : served plans (suc time) step.task ≡ step.frame * plan.total + step.cycles
  pub response : step.frame * plan.period + step.response ≡ suc time
  pub later : 0 < step.response
