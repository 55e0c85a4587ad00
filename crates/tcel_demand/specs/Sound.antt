-- Plans that a set of tasks can have, and sets of which the schedule speaks.
use Rattle.std.specs.Prelude.{◌≡◌, ℕ, ◌/◌, ◌^◌, ◌<◌, ◌≤◌, List, Some, All, length, slice_get, sum_by}
use Rattle.tcel_num.specs.Hyperperiod.{IsHyperperiod, demand}
use Rattle.tcel_num.specs.Plan.{Plan, Point}

-- a point of a frame of so many cycles
pub record IsSoundPoint (total : ℕ) (point : Point) : Type 0 where
  pub prefix_some : 0 < point.prefix
  pub prefix_within : point.prefix ≤ total
  pub bound_some : 0 < point.bound
  pub bound_most : point.bound ≤ 10 ^ 9

pub record IsSoundPlan (plan : Plan) : Type 0 where
  pub period_some : 0 < plan.period
  pub period_most : plan.period ≤ 10 ^ 9
  pub total_some : 0 < plan.total
  pub total_most : plan.total ≤ 10 ^ 9
  pub points : All (IsSoundPoint plan.total) plan.points

-- the plans of 1 to 16 tasks
pub record AreSound (plans : List Plan) : Type 0 where
  pub some : 0 < length plans
  pub most : length plans ≤ 16
  pub each : All IsSoundPlan plans

-- the set has a task with this number, and its plan a point with this number
pub record HasPoint (plans : List Plan) (task point : ℕ) : Type 0 where
  pub plan : Plan
  pub of_task : slice_get plans task ≡ Some plan
  pub what : Point
  pub of_plan : slice_get plan.points point ≡ Some what

-- the frames that are released in so many ticks
abbrev pub frames_in : List Plan → ℕ → ℕ
frames_in plans hyper = sum_by (λ (plan : Plan). hyper / plan.period) plans

-- sound plans, whose releases repeat after so many ticks, with no more than a million frames in that time
pub record AreWithin (plans : List Plan) (hyper : ℕ) : Type 0 where
  pub sound : AreSound plans
  pub period : IsHyperperiod plans hyper
  pub frames : frames_in plans hyper ≤ 10 ^ 6

-- such plans whose hyperperiod is within 10^12 ticks and has room for all their cycles
pub record Fit (plans : List Plan) (hyper : ℕ) : Type 0 where
  pub within : AreWithin plans hyper
  pub most : hyper ≤ 10 ^ 12
  pub room : demand plans hyper ≤ hyper
