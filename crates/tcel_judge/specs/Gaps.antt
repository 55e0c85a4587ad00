-- What is missing of tasks that are on their way.
use Rattle.std.specs.Prelude.{◌≡◌, ℕ, ◌-◌, ◌<◌, List, Some, length, slice_get}
use Rattle.tcel_num.specs.Plan.{Plan}
use Rattle.tcel_num.specs.Schedule.{served}
use Rattle.tcel_core.specs.Promises.{Promise, promises}
use Rattle.tcel_judge.specs.declared.course.Course.{Course}
use Rattle.tcel_judge.specs.declared.missing.Gap.{Gap}
use Rattle.tcel_judge.specs.declared.verdict.Breach.{Breach}
use Rattle.tcel_judge.specs.declared.verdict.Breach.TheVariants.{Missing}
use Rattle.tcel_judge.specs.Courses.{judged, place}
use Rattle.tcel_judge.specs.FirstBreach.{due_of, MissesNone, Misses, total_at}

-- the period of the task
abbrev pub period_of : Course → ℕ
period_of c = (judged c).does.period

-- of a task with frames of so many cycles, which was served so many, no entry is due that it has not passed
abbrev pub LacksNone : ℕ → ℕ → ℕ → Course → Type 0
LacksNone ticks total count c = MissesNone ticks total count (judged c).does (place c)

-- this is the first of its entries that it has not passed and that is due
pub record Lacks (ticks total count : ℕ) (c : Course) (gap : Gap) : Type 0 where
  pub at : ℕ
  pub entry : Promise
  pub misses : Misses ticks total count (judged c).does (place c) at entry
  pub frame : gap.frame ≡ entry.frame
  pub what : gap.what ≡ due_of (at - length (promises (judged c).does entry.frame)) entry.what

module _ (plans : List Plan) (ticks : ℕ) (courses : List Course) where
  -- none of these tasks lacks an entry, of those before this number
  abbrev pub NoneLacks : ℕ → Type 0
  NoneLacks many = (i : ℕ) (c : Course) → i < many → slice_get courses i ≡ Some c → LacksNone ticks (total_at plans i) (served plans ticks i) c

  -- the breach names the first task that lacks one, and its first
  pub record IsFirstMissing (breach : Breach) : Type 0 where
    pub task : ℕ
    pub course : Course
    pub gap : Gap
    pub there : slice_get courses task ≡ Some course
    pub before : NoneLacks task
    pub lacks : Lacks ticks (total_at plans task) (served plans ticks task) course gap
    pub named : breach ≡ Missing task gap.frame gap.what
