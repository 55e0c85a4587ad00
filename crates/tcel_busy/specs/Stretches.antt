-- Stretches of a task's frames, in the order in which they are served.
use Rattle.std.specs.Prelude.{◌≡◌, ℕ, ◌+◌, ◌*◌, ◌^◌, ◌<◌, ◌≤◌, List, Some, slice_get}
use Rattle.tcel_busy.specs.declared.stretch.Stretch.{Stretch}
use Rattle.tcel_num.specs.Lateness.{IsFirstServed}
use Rattle.tcel_num.specs.Plan.{Plan}
use Rattle.tcel_num.specs.Schedule.{served}

-- how far a walk through a task's frames is: so many frames and so many cycles of the next one; how much is left to walk at most
pub record Position : Type 0 where
  pub plans : List Plan
  pub task : ℕ
  pub frame : ℕ
  pub from : ℕ
  pub left : ℕ

-- each of its cycles is first served so long after the frame's release
pub record IsStretch (plans : List Plan) (task : ℕ) (plan : Plan) (stretch : Stretch) : Type 0 where
  pub of_task : slice_get plans task ≡ Some plan
  pub order : stretch.from ≤ stretch.to
  pub within : stretch.to ≤ plan.total
  pub delay : stretch.delay ≤ 10 ^ 12
  pub reached : (cycle : ℕ) → stretch.from < cycle → cycle ≤ stretch.to →
      IsFirstServed plans task (stretch.frame * plan.total + cycle) (stretch.frame * plan.period + (stretch.delay + cycle))

-- the walk goes on where the stretch ends
pub record GoesOn (old new : Position) (plan : Plan) (stretch : Stretch) : Type 0 where
  pub plans : new.plans ≡ old.plans
  pub task : new.task ≡ old.task
  pub frame : stretch.frame ≡ old.frame
  pub from : stretch.from ≡ old.from
  pub count : new.frame * plan.total + new.from ≡ stretch.frame * plan.total + stretch.to
  pub left : new.left < old.left

-- one step of the walk
pub record IsNextStretch (old new : Position) (stretch : Stretch) : Type 0 where
  pub plan : Plan
  pub is : IsStretch old.plans old.task plan stretch
  pub on : GoesOn old new plan stretch

-- among the first frames there is one that reaches this many cycles no sooner after its release
pub record IsCovered (plans : List Plan) (task : ℕ) (plan : Plan) (frames frame prefix : ℕ) : Type 0 where
  pub low : ℕ
  pub no_later : low ≤ frame
  pub within : low < frames
  pub response : ℕ
  pub first : IsFirstServed plans task (low * plan.total + prefix) (low * plan.period + response)
  pub enough : frame * plan.total + prefix ≤ served plans (frame * plan.period + response) task

-- the walk is over: the frames that it passed show every response
pub record IsOver (position : Position) : Type 0 where
  pub some : 0 < position.frame
  pub whole : position.from ≡ 0
  pub covers : (plan : Plan) (frame prefix : ℕ) → slice_get position.plans position.task ≡ Some plan → 0 < prefix → prefix ≤ plan.total →
      IsCovered position.plans position.task plan position.frame frame prefix
