-- Why a set is refused: each cause stands where those before it don't, in this order.
use Rattle.std.specs.Prelude.{◌≡◌, ℕ, ◌+◌, ◌^◌, ◌<◌, ◌≤◌, ◌⊎◌, Bool, true, false, List, Some, length, slice_get, take}
use Rattle.tcel_num.specs.Hyperperiod.{IsLeastCommonMultiple, demand}
use Rattle.tcel_num.specs.Lateness.{IsFirstLate, Lateness}
use Rattle.tcel_num.specs.Plan.{Plan}
use Rattle.tcel_core.specs.Kept.{IsKeptSet}
use Rattle.tcel_core.specs.Language.{Task}
use Rattle.tcel_core.specs.Parts.{TaskParts, parts_of, slicing_of}
use Rattle.tcel_target.specs.declared.costs.Costs.{Costs}
use Rattle.tcel_cost.specs.Forms.{Form, form_of}
use Rattle.tcel_cost.specs.Plans.{IsPlan}
use Rattle.tcel_driver.specs.Choice.{Fits}
use Rattle.tcel_driver.specs.Forms.{AreCosted, AreForms, AreSplit, IsAffordable, frames_within, task_periods}
use Rattle.tcel_driver.specs.declared.refused.Refused.{Refused}
use Rattle.tcel_driver.specs.declared.refused.Refused.TheVariants as refused

-- ---- cells

-- the parts of a task by its kept set need so many words
pub record NeedsWords (task : Task) (words : ℕ) : Type 0 where
  pub kept : ℕ → Bool
  pub least : IsKeptSet task.body kept
  pub counted : words ≡ (parts_of (slicing_of task kept)).words

-- those of the task with this number need more than 65,536 words, and it is the first such task
pub record IsTooLarge (tasks : List Task) (number words : ℕ) : Type 0 where
  pub task : Task
  pub there : slice_get tasks number ≡ Some task
  pub needs : NeedsWords task words
  pub above : 65536 < words
  pub before : List TaskParts
  pub earlier : AreSplit (take number tasks) before

-- ---- cycles

-- the plan of a form has so many cycles a frame, more than 10^9
pub record IsDearForm (form : Form) (costs : Costs) (cycles : ℕ) : Type 0 where
  pub plan : Plan
  pub is : IsPlan form costs plan
  pub counted : cycles ≡ plan.total
  pub above : 10 ^ 9 < cycles

-- that of the task as a whole, or where it hasn't, that of its parts
abbrev pub IsDearTask : Task → TaskParts → Costs → ℕ → Type 0
IsDearTask task own costs cycles =
    IsDearForm (form_of task false own) costs cycles
    ⊎ ((plan : Plan) × IsAffordable (form_of task false own) costs plan × IsDearForm (form_of task true own) costs cycles)

-- all tasks can be split, and this is the first of which a form is too dear
pub record IsTooDear (tasks : List Task) (costs : Costs) (number cycles : ℕ) : Type 0 where
  pub parts : List TaskParts
  pub split : AreSplit tasks parts
  pub task : Task
  pub own : TaskParts
  pub there : slice_get tasks number ≡ Some task
  pub of_task : slice_get parts number ≡ Some own
  pub dear : IsDearTask task own costs cycles
  pub whole : List Plan
  pub sliced : List Plan
  pub earlier : AreCosted costs (take number tasks) (take number parts) whole sliced

-- ---- the hyperperiod

-- all tasks can be split, and no form is too dear
pub record HavePlans (tasks : List Task) (costs : Costs) : Type 0 where
  pub parts : List TaskParts
  pub split : AreSplit tasks parts
  pub whole : List Plan
  pub sliced : List Plan
  pub costed : AreCosted costs tasks parts whole sliced

-- then with this task the least common multiple of the periods passes 10^12
pub record IsTooLong (tasks : List Task) (costs : Costs) (number : ℕ) : Type 0 where
  pub plans : HavePlans tasks costs
  pub there : number < length tasks
  pub before : ℕ
  pub earlier : IsLeastCommonMultiple (take number (task_periods tasks)) before
  pub most : before ≤ 10 ^ 12
  pub multiple : ℕ
  pub with_it : IsLeastCommonMultiple (take (number + 1) (task_periods tasks)) multiple
  pub above : 10 ^ 12 < multiple

-- or it is at most 10^12, and has so many frames, more than 10^6
pub record HasTooManyFrames (tasks : List Task) (costs : Costs) (frames : ℕ) : Type 0 where
  pub plans : HavePlans tasks costs
  pub hyper : ℕ
  pub period : IsLeastCommonMultiple (task_periods tasks) hyper
  pub most : hyper ≤ 10 ^ 12
  pub counted : frames ≡ frames_within tasks hyper
  pub above : 10 ^ 6 < frames

-- ---- time

-- all forms are within the limits, those of the sliced tasks with these plans, and no number of sliced tasks fits
pub record NoneFits (tasks : List Task) (costs : Costs) (sliced : List Plan) (hyper : ℕ) : Type 0 where
  pub parts : List TaskParts
  pub whole : List Plan
  pub forms : AreForms tasks costs parts whole sliced hyper
  pub none : (k : ℕ) → k ≤ length tasks → Fits tasks costs parts k → ⊥

-- then with all tasks sliced more cycles are asked for than there are
pub record IsOverloaded (tasks : List Task) (costs : Costs) (cycles hyper : ℕ) : Type 0 where
  pub sliced : List Plan
  pub none : NoneFits tasks costs sliced hyper
  pub counted : cycles ≡ demand sliced hyper
  pub above : hyper < cycles

-- or there is room, and this is the first late point
pub record IsLateSliced (tasks : List Task) (costs : Costs) (late : Lateness) : Type 0 where
  pub sliced : List Plan
  pub hyper : ℕ
  pub none : NoneFits tasks costs sliced hyper
  pub room : demand sliced hyper ≤ hyper
  pub first : IsFirstLate sliced late

-- ---- all causes

-- why the forms of a set aren't given; want of memory has no cause
abbrev pub ForbidsForms : List Task → Costs → Refused → Type 0
ForbidsForms tasks costs (refused.TooManyCells number words) = IsTooLarge tasks number words
ForbidsForms tasks costs (refused.TooDear number cycles) = IsTooDear tasks costs number cycles
ForbidsForms tasks costs (refused.HyperTooLong number) = IsTooLong tasks costs number
ForbidsForms tasks costs (refused.TooManyFrames frames) = HasTooManyFrames tasks costs frames
ForbidsForms tasks costs (refused.Overload cycles hyper) = ⊥
ForbidsForms tasks costs (refused.Late late) = ⊥
ForbidsForms tasks costs refused.NoMemory = Unit {0}

-- why no choice is made
abbrev pub Refuses : List Task → Costs → Refused → Type 0
Refuses tasks costs (refused.Overload cycles hyper) = IsOverloaded tasks costs cycles hyper
Refuses tasks costs (refused.Late late) = IsLateSliced tasks costs late
Refuses tasks costs other = ForbidsForms tasks costs other
