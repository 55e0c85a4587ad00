-- The frames in progress on the machine, beside the demand schedule.
use Rattle.std.specs.Prelude.{◌≡◌, ℕ, zero, suc, ◌+◌, ◌*◌, ◌≤◌, ◌<◌, ◌==◌, ℤ, List, [], ◌∷◌, length, map, All, Some, IfSome, slice_get, slice_index_or, if◌then◌else◌}
use Rattle.std.specs.List.{AllZip}
use Rattle.tcel_num.specs.Entry.{Entry}
use Rattle.tcel_num.specs.Plan.{Plan, Point, PointName, before, within}
use Rattle.tcel_num.specs.Schedule.{served}
use Rattle.tcel_core.specs.Frames.{start_of}
use Rattle.tcel_core.specs.Language.{Task}
use Rattle.tcel_core.specs.Meaning.{exec}
use Rattle.tcel_core.specs.Meets.{told, promised, entries_of}
use Rattle.tcel_core.specs.Outcome.{EnclosingBlock, Occurrence}
use Rattle.tcel_core.specs.Promises.{Behavior, behavior_of, first_promises, promises}
use Rattle.tcel_core.specs.Windows.{start_bound}
use Rattle.tcel_target.specs.declared.costs.Costs.{Costs}
use Rattle.tcel_target.specs.Costs.{CostsInRange}
use Rattle.tcel_image.specs.declared.image.Image.{Image}
use Rattle.tcel_image.specs.declared.image.ImageTask.{ImageTask}
use Rattle.tcel_image.specs.Machine.{Machine, Running, Streams, is_ready, next, own_tick, start, trace}
use Rattle.tcel_cost.specs.Forms.{Form}
use Rattle.tcel_cost.specs.Plans.{ArePlans}
use Rattle.tcel_code.specs.Layout.{layout}
use Rattle.tcel_code.specs.PartsFit.{PartsFit}
use Rattle.tcel_code.specs.Theorem.{HasStreams}

-- how many ticks a task's frame in progress has run, after one more that left the task so: none where that tick ended the frame
abbrev pub counted : Running → Running → ℕ → ℕ
counted old new ran = if new.ended == old.ended then suc ran else 0

-- the same of all tasks, where the first that is ready has the tick
abbrev pub ran_on : Costs → ℕ → List ImageTask → Streams → ℕ → List Running → List ℕ → List ℕ
ran_on costs now (task ∷ tasks) streams number (r ∷ rs) (n ∷ ran) =
    if is_ready task now r then counted r (own_tick costs task (slice_index_or streams number []) now r).task n ∷ ran
    else n ∷ ran_on costs now tasks streams (number + 1) rs ran
ran_on costs now _ streams number _ ran = ran

-- a machine, and how many ticks each task's frame in progress has run
pub record Counting : Type 0 where
  pub machine : Machine
  pub ran : List ℕ

abbrev pub count_on : Image → Streams → Counting → Counting
count_on image streams c =
    record { machine = next image streams c.machine; ran = ran_on image.costs c.machine.now image.tasks streams 0 c.machine.tasks c.ran }

-- so many ticks on
abbrev pub counting_from : Image → Streams → ℕ → Counting → Counting
counting_from image streams zero c = c
counting_from image streams (suc ticks) c = counting_from image streams ticks (count_on image streams c)

-- after so many ticks from the start
abbrev pub counting : Image → Streams → ℕ → Counting
counting image streams ticks = counting_from image streams ticks (record { machine = start image; ran = map (λ _. 0) image.tasks })

-- the events of a frame of a task over these streams
abbrev pub events_of : Task → List (List ℤ) → ℕ → List Occurrence
events_of task streams f = (exec task.body task.vars (start_of task streams f)).events

-- a point of this name and bound, of whose prefix this is so
pub record HasPointBy (points : List Point) (So : ℕ → Type 0) (name : PointName) (bound : ℕ) : Type 0 where
  pub number : ℕ
  pub point : Point
  pub there : slice_get points number ≡ Some point
  pub named : point.name ≡ name
  pub bounded : point.bound ≡ bound
  pub so : So point.prefix

-- each bound of the blocks around an event has such a point
abbrev pub AreBoundBy : List Point → (ℕ → Type 0) → List EnclosingBlock → Type 0
AreBoundBy points So [] = Unit {0}
AreBoundBy points So (b ∷ bs) =
    IfSome b.window.within (HasPointBy points So (within b.number)) × IfSome (start_bound b) (HasPointBy points So (before b.number)) × AreBoundBy points So bs

-- what holds of a task at a time, by the ticks that its frame in progress has run and by its entries so far; it is to do so, with these events in each frame
pub record IsAbreast (plans : List Plan) (plan : Plan) (b : Behavior) (events : ℕ → List Occurrence) (now number : ℕ) (r : Running) (ran : ℕ) (entries : List Entry) : Type 0 where
  -- its entries are the first that it is to make, in order
  pub follows : map told entries ≡ map promised (first_promises b (length entries))
  -- the demand schedule has served it no more than it has run
  pub dominates : served plans now number ≤ r.ended * plan.total + ran
  -- a frame that has not ended has run fewer ticks than its total
  pub unfinished : ran < plan.total
  -- all entries of the frames that have ended are made
  pub ended : length (promises b r.ended) ≤ length entries
  -- where the frame has run as many ticks as its point's prefix, its events and its mark are made
  pub marked : (point : Point) → slice_get plan.points 0 ≡ Some point → point.prefix ≤ ran →
      length (promises b r.ended) + length (b.frames r.ended).events < length entries
  -- each bound of the blocks around an event has a point; where the frame has run as many ticks as its prefix, the event is made
  pub bound : (k : ℕ) (e : Occurrence) → slice_get (events r.ended) k ≡ Some e →
      AreBoundBy plan.points (λ prefix. prefix ≤ ran → length (promises b r.ended) + k < length entries) e.around

-- so it is with the task of this number on a machine
abbrev pub IsAbreastAt : Counting → List Plan → Plan → Behavior → (ℕ → List Occurrence) → (now number : ℕ) → List Entry → Type 0
IsAbreastAt c plans plan b events now number entries =
    (r : Running) × (ran : ℕ) × (slice_get c.machine.tasks number ≡ Some r) × (slice_get c.ran number ≡ Some ran) × IsAbreast plans plan b events now number r ran entries

-- in every run of the image of a set, whether its demand fits or not, each task is abreast of the demand schedule at every time
abbrev pub RunsKeepAbreast : Type 0
RunsKeepAbreast =
    (forms : List Form) (costs : Costs) (plans : List Plan) (streams : Streams) (ticks : ℕ) → All PartsFit forms → CostsInRange costs → ArePlans forms costs plans →
    AllZip HasStreams (map (λ (form : Form). form.task) forms) streams →
    (number : ℕ) (form : Form) (plan : Plan) → slice_get forms number ≡ Some form → slice_get plans number ≡ Some plan →
    let own = slice_index_or streams number [] in
    IsAbreastAt (counting (layout forms costs) streams ticks) plans plan (behavior_of form.task own) (events_of form.task own) ticks number
    (entries_of number (trace (layout forms costs) streams ticks))
