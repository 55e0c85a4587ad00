-- Tasks on their way through their frames.
use Rattle.std.specs.Prelude.{◌≡◌, ℕ, ◌+◌, ◌-◌, ◌<◌, nat_lt, if◌then◌else◌, ℤ, pos, List, [], ◌∷◌, length, map, Option, Some, slice_index_or}
use Rattle.tcel_core.specs.Frames.{declared_state, start_cells}
use Rattle.tcel_core.specs.Language.{Task}
use Rattle.tcel_link.specs.declared.link.Link.{Link}
use Rattle.tcel_link.specs.declared.run.Run.{Run}
use Rattle.tcel_link.specs.Feeds.{Carried, all_given, begun, ended}
use Rattle.tcel_link.specs.Linked.{Ran, ran}
use Rattle.tcel_link.specs.Links.{task_at}
use Rattle.tcel_link.specs.Receives.{receives}
use Rattle.tcel_script.specs.Script.{Streams}

-- the frame that a task runs next, over links that have carried this
abbrev pub next_frame : ℕ → Task → List Carried → Run → Ran
next_frame number task links run = ran task (record { cells = run.cells; inputs = all_given number run.next links run.inputs })

-- a task ran its next frame, over links that carried this before and after
pub record IsRelease (number : ℕ) (task : Task) (old new : Run) (before after : List Carried) : Type 0 where
  pub cells : new.cells ≡ (next_frame number task before old).next.cells
  pub inputs : new.inputs ≡ (next_frame number task before old).next.inputs
  pub next : new.next ≡ old.next + task.period
  pub links :
      after ≡ map (ended number old.next (old.next + task.deadline) (next_frame number task before old).frame.events)
      (map (begun number old.next) before)

-- the number of the first task that is released first, before a time, or another: these tasks are numbered from this number on
abbrev pub first_release : ℕ → Option ℕ → ℕ → List Run → Option ℕ
first_release time found number [] = found
first_release time found number (run ∷ runs) =
    if nat_lt run.next time then first_release run.next (Some number) (number + 1) runs
    else first_release time found (number + 1) runs

-- the ticks to a time that are left to each task, together
abbrev pub ticks_left : ℕ → List Run → ℕ
ticks_left ticks [] = 0
ticks_left ticks (run ∷ runs) = (ticks - run.next) + ticks_left ticks runs

-- a task before its first frame, over these streams
abbrev pub start_run : Task → List (List ℤ) → Run
start_run task streams = record { cells = start_cells task.vars (declared_state task.vars); inputs = streams; next = 0 }

-- these tasks before their first frames, where the first of them has this number
abbrev pub start_runs : ℕ → List Task → Streams → List Run
start_runs number [] streams = []
start_runs number (task ∷ tasks) streams = start_run task (slice_index_or streams number []) ∷ start_runs (number + 1) tasks streams

-- a link before any frame
abbrev pub start_link : List Task → Link → Carried
start_link tasks link = record { link = link; sample = pos 0; pending = []; copies = receives (task_at tasks link.to).body link.input; received = [] }

-- the link leads to an input that has a stream, where each task has so many
abbrev pub LeadsAmong : List ℕ → Carried → Type 0
LeadsAmong counts c = (c.link.to < length counts) × (c.link.input < slice_index_or counts c.link.to 0)
