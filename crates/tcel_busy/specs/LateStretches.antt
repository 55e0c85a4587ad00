-- The late points of one stretch, and the first late point of one task.
use Rattle.std.specs.Prelude.{◌≡◌, ℕ, ◌+◌, ◌<◌, ◌≤◌, List, Some, slice_get}
use Rattle.tcel_busy.specs.declared.stretch.Stretch.{Stretch}
use Rattle.tcel_num.specs.Lateness.{Place, Lateness, IsResponse, IsLate, Precedes, place_of}
use Rattle.tcel_num.specs.Plan.{Plan, Point}

-- the stretch reaches the point, after its bound
pub record IsLateIn (plan : Plan) (stretch : Stretch) (place : ℕ) : Type 0 where
  pub point : Point
  pub of_plan : slice_get plan.points place ≡ Some point
  pub after : stretch.from < point.prefix
  pub upto : point.prefix ≤ stretch.to
  pub above : point.bound < stretch.delay + point.prefix

-- it is the first such point of the stretch, with what its plan says of it
pub record IsLateStretch (plan : Plan) (task : ℕ) (stretch : Stretch) (late : Lateness) : Type 0 where
  pub of_task : late.task ≡ task
  pub frame : late.frame ≡ stretch.frame
  pub is : IsLateIn plan stretch late.point
  pub response : late.response ≡ stretch.delay + is.point.prefix
  pub named : is.point.name ≡ late.name
  pub bounded : is.point.bound ≡ late.bound
  pub first : (place : ℕ) → place < late.point → IsLateIn plan stretch place → ⊥

-- a delay by which a frame may be done, before any of its points can be late
pub record IsRoom (plan : Plan) (room : ℕ) : Type 0 where
  pub each : (place : ℕ) (point : Point) → slice_get plan.points place ≡ Some point → room + point.prefix ≤ point.bound + plan.total

-- no point of the task is ever late
abbrev pub IsNeverLateTask : List Plan → ℕ → Type 0
IsNeverLateTask plans task = (place : Place) → place.task ≡ task → IsLate plans place → ⊥

-- this point of the task is late, and none of its points before it is
pub record IsFirstOfTask (plans : List Plan) (task : ℕ) (late : Lateness) : Type 0 where
  pub of_task : late.task ≡ task
  pub plan : Plan
  pub point : Point
  pub responds : IsResponse plans (place_of late) plan point late.response
  pub named : point.name ≡ late.name
  pub bounded : point.bound ≡ late.bound
  pub above : late.bound < late.response
  pub first : (place : Place) → place.task ≡ task → Precedes place (place_of late) → IsLate plans place → ⊥
