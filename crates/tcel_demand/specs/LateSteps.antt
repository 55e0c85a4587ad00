-- The late points of one step, and the earlier of two late points.
use Rattle.std.specs.Prelude.{◌≡◌, ℕ, ◌<◌, ◌≤◌, ◌⊎◌, List, Option, Some, None, slice_get, slice_index}
use Rattle.tcel_demand.specs.declared.step.Step.{Step}
use Rattle.tcel_num.specs.Lateness.{Lateness, Precedes, place_of}
use Rattle.tcel_num.specs.Plan.{Plan, Point}

-- the step reaches the point, after its bound
pub record IsLateIn (plan : Plan) (step : Step) (place : ℕ) : Type 0 where
  pub point : Point
  pub of_plan : slice_get plan.points place ≡ Some point
  pub reached : point.prefix ≡ step.cycles
  pub above : point.bound < step.response

-- it is the first such point of the step, with what its plan says of it
pub record IsLateStep (plan : Plan) (step : Step) (late : Lateness) : Type 0 where
  pub task : late.task ≡ step.task
  pub frame : late.frame ≡ step.frame
  pub response : late.response ≡ step.response
  pub is : IsLateIn plan step late.point
  pub named : is.point.name ≡ late.name
  pub bounded : is.point.bound ≡ late.bound
  pub first : (place : ℕ) → place < late.point → IsLateIn plan step place → ⊥

-- of a late point, where there is one, and another, this one comes first
abbrev pub IsEarlier : Option Lateness → Lateness → Lateness → Type 0
IsEarlier None late first = first ≡ late
IsEarlier (Some other) late first = ((first ≡ late) × Precedes (place_of late) (place_of other)) ⊎ ((first ≡ other) × ¬ Precedes (place_of late) (place_of other))

-- no point of the plan has a bound below this
pub record IsSoonest (plan : Plan) (soonest : ℕ) : Type 0 where
  pub each : (place : ℕ) (point : Point) → slice_get plan.points place ≡ Some point → soonest ≤ point.bound

-- the same for each plan at its place
abbrev pub AreSoonest : List Plan → List ℕ → Type 0
AreSoonest plans soonest = (task : ℕ) (plan : Plan) → slice_get plans task ≡ Some plan → IsSoonest plan (slice_index soonest task)
