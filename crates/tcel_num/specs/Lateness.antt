-- When the points of a plan are reached in the demand schedule, and which of them are late, over all frames for ever.
use Rattle.std.specs.Prelude.{◌≡◌, ℕ, ◌+◌, ◌*◌, ◌<◌, ◌≤◌, ◌⊎◌, List, Some, slice_get}
use Rattle.tcel_num.specs.Plan.{Plan, Point, PointName}
use Rattle.tcel_num.specs.Schedule.{served}

-- a point in one frame of a task, by numbers from 0
pub record Place : Type 0 where
  pub task : ℕ
  pub frame : ℕ
  pub point : ℕ

-- this is the first time at which the task was served so many cycles
pub record IsFirstServed (plans : List Plan) (task cycles time : ℕ) : Type 0 where
  pub there : cycles ≤ served plans time task
  pub before : (earlier : ℕ) → earlier < time → served plans earlier task < cycles

-- in its frame the point is reached so many ticks after the release
pub record IsResponse (plans : List Plan) (place : Place) (plan : Plan) (point : Point) (response : ℕ) : Type 0 where
  pub of_task : slice_get plans place.task ≡ Some plan
  pub of_plan : slice_get plan.points place.point ≡ Some point
  pub reached : IsFirstServed plans place.task (place.frame * plan.total + point.prefix) (place.frame * plan.period + response)

-- the point is reached after its bound
abbrev pub IsLate : List Plan → Place → Type 0
IsLate plans place = (plan : Plan) × (point : Point) × (response : ℕ) × IsResponse plans place plan point response × (point.bound < response)

-- the order of places: falling priority, then rising frames, then the plan's order
abbrev pub Precedes : Place → Place → Type 0
Precedes a b =
    (a.task < b.task) ⊎ ((a.task ≡ b.task) × (a.frame < b.frame)) ⊎ ((a.task ≡ b.task) × (a.frame ≡ b.frame) × (a.point < b.point))

-- no point of any frame is ever late
abbrev pub IsNeverLate : List Plan → Type 0
IsNeverLate plans = (place : Place) → IsLate plans place → ⊥

-- a late point, with what its plan says of it
pub record Lateness : Type 0 where
  pub task : ℕ
  pub frame : ℕ
  pub point : ℕ
  pub name : PointName
  pub response : ℕ
  pub bound : ℕ

-- where a late point stands
abbrev pub place_of : Lateness → Place
place_of late = record { task = late.task; frame = late.frame; point = late.point }

-- this point is late, and none before it is
pub record IsFirstLate (plans : List Plan) (late : Lateness) : Type 0 where
  pub plan : Plan
  pub point : Point
  pub responds : IsResponse plans (place_of late) plan point late.response
  pub named : point.name ≡ late.name
  pub bounded : point.bound ≡ late.bound
  pub above : late.bound < late.response
  pub first : (place : Place) → Precedes place (place_of late) → IsLate plans place → ⊥

-- the greatest response of a task's point over all frames, and the first frame that has it
pub record IsWorst (plans : List Plan) (task point frame response : ℕ) : Type 0 where
  pub plan : Plan
  pub what : Point
  pub reached : IsResponse plans (record { task = task; frame = frame; point = point }) plan what response
  pub greatest : (other r : ℕ) → IsResponse plans (record { task = task; frame = other; point = point }) plan what r → r ≤ response
  pub earliest : (other r : ℕ) → other < frame → IsResponse plans (record { task = task; frame = other; point = point }) plan what r → r < response
