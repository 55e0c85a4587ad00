-- A task on its way through what it is to do.
use Rattle.std.specs.Prelude.{◌≡◌, ℕ, suc, ◌+◌, ◌<◌, ℤ, List, [], Option, None, Some, length, map, All, slice_index_or}
use Rattle.tcel_num.specs.Entry.{What, receive, send, first, end}
use Rattle.tcel_core.specs.Cells.{all_words}
use Rattle.tcel_core.specs.declared.event.Event.{Event}
use Rattle.tcel_core.specs.Frames.{frame_of, start_of}
use Rattle.tcel_core.specs.Language.{Task}
use Rattle.tcel_core.specs.Plain.{plain_task}
use Rattle.tcel_core.specs.Promises.{Behavior, Promise, behavior_of, promises}
use Rattle.tcel_core.specs.Sound.{IsSoundTask}
use Rattle.tcel_judge.specs.FirstBreach.{Judged, breach_at, own_lines}
use Rattle.tcel_trace.specs.declared.trace_line.TraceLine.{TraceLine}
use Rattle.tcel_judge.specs.declared.verdict.Breach.{Breach}
use Rattle.tcel_judge.specs.declared.course.Course.{Course}
use Rattle.tcel_judge.specs.declared.course.Coming.{Coming}
use Rattle.tcel_judge.specs.declared.course.ComingWhat.{ComingWhat}
use Rattle.tcel_judge.specs.declared.course.ComingWhat.TheVariants as coming

-- a task and what it is to do on these streams of its inputs
abbrev pub judged_on : Task → List (List ℤ) → Judged
judged_on task streams = record { task = task; does = behavior_of task streams }

-- the streams of its inputs
abbrev pub streams_of : Course → List (List ℤ)
streams_of c = slice_index_or c.script.now c.number []

-- the task and what it is to do
abbrev pub judged : Course → Judged
judged c = judged_on (plain_task c.task.now) (streams_of c)

-- how many of its entries it has passed
abbrev pub place : Course → ℕ
place c = length (promises (judged c).does c.frame) + c.passed

-- the frame in progress is evaluated, and some entry of it is still to come
pub record Stands (c : Course) : Type 0 where
  pub sound : IsSoundTask (plain_task c.task.now)
  pub events : c.events.items ≡ ((judged c).does.frames c.frame).events
  pub next : record { cells = c.cells; inputs = c.inputs } ≡ start_of (plain_task c.task.now) (streams_of c) (suc c.frame)
  pub words : length c.cells ≡ all_words c.task.now.vars
  pub within : c.passed < length c.events.items + 2

-- from this start, with that of some frame, that frame ran: its events, and the start of the next one
abbrev pub IsNextFrame : Task → List ℤ → List (List ℤ) → List ℤ → List (List ℤ) → List Event → Type 0
IsNextFrame task cells inputs after left events =
    (streams : List (List ℤ)) (f : ℕ) → record { cells = cells; inputs = inputs } ≡ start_of task streams f
    → (events ≡ (frame_of task streams f).events) × (record { cells = after; inputs = left } ≡ start_of task streams (suc f))

-- what an entry shows in a frame that leaves this state
abbrev pub shown : List ℤ → ComingWhat → What
shown state (coming.Receive port value) = receive port value
shown state (coming.Send port value) = send port value
shown state coming.First = first
shown state coming.End = end state

-- the entry of a task that is to do this
abbrev pub promised : Behavior → Coming → Promise
promised b entry =
    record { frame = entry.frame; what = shown (b.frames entry.frame).state entry.what; earliest = entry.earliest; latest = entry.latest }

-- a course that has passed the entries of these lines
pub record HasTaken (lines : List TraceLine) (c : Course) : Type 0 where
  pub stands : Stands c
  pub taken : place c ≡ own_lines (judged c).task.name lines

-- the courses of these tasks, each of which has passed the entries of these lines
pub record HaveTaken (set : List Judged) (lines : List TraceLine) (courses : List Course) : Type 0 where
  pub judged : map judged courses ≡ set
  pub each : All (HasTaken lines) courses

-- the first line with a breach, from 0, and what is wrong with it
pub record IsFirstAt (set : List Judged) (lines : List TraceLine) (b : Breach) : Type 0 where
  pub place : ℕ
  pub at : breach_at set lines place ≡ Some b
  pub passed : (k : ℕ) → k < place → breach_at set lines k ≡ None

-- the first breach of the lines, where there is one
abbrev pub IsFirstBreach : List Judged → List TraceLine → Option Breach → Type 0
IsFirstBreach set lines None = (place : ℕ) → breach_at set lines place ≡ None
IsFirstBreach set lines (Some b) = IsFirstAt set lines b
