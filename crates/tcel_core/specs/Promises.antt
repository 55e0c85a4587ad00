-- The entries that a task is to make, one frame after another for ever.
use Rattle.std.specs.Prelude.{ℕ, zero, suc, ◌+◌, ◌*◌, ℤ, List, [], ◌∷◌, ◌++◌, take, map, Option, None, Some}
use Rattle.tcel_num.specs.Entry.{What, receive, send, first, end}
use Rattle.tcel_core.specs.declared.event.Event.{Event}
use Rattle.tcel_core.specs.declared.event.EventKind.{EventKind}
use Rattle.tcel_core.specs.declared.event.EventKind.TheVariants.{Receive, Send}
use Rattle.tcel_core.specs.Frames.{Frame, frame_of}
use Rattle.tcel_core.specs.Language.{Task}

-- what a task is to do: its frames, one released each period, and their deadline
pub record Behavior : Type 0 where
  pub period : ℕ
  pub deadline : ℕ
  pub frames : ℕ → Frame

-- an entry that a task is to make: when at the earliest and, if it is bound, when at the latest
pub record Promise : Type 0 where
  pub frame : ℕ
  pub what : What
  pub earliest : ℕ
  pub latest : Option ℕ

-- what the entry of an event shows
abbrev pub what_of : EventKind → ℕ → ℤ → What
what_of Receive port value = receive port value
what_of Send port value = send port value

-- the entry of an event of frame f, which is released at this time
abbrev pub event_promise : ℕ → ℕ → Event → Promise
event_promise f release e =
    record {
      frame = f;
      what = what_of e.kind e.port e.value;
      earliest = release + e.earliest;
      latest = Some (release + e.latest);
    }

-- the end of a frame's events, by the deadline
abbrev pub first_promise : ℕ → ℕ → ℕ → Promise
first_promise f release deadline =
    record { frame = f; what = first; earliest = 0; latest = Some (release + deadline) }

-- the end of a frame, which shows the state after it
abbrev pub end_promise : ℕ → List ℤ → Promise
end_promise f state = record { frame = f; what = end state; earliest = 0; latest = None }

-- the entries of frame f: its events, `first` and `end`
abbrev pub frame_promises : Behavior → ℕ → List Promise
frame_promises b f =
    map (event_promise f (f * b.period)) (b.frames f).events
    ++ (first_promise f (f * b.period) b.deadline ∷ end_promise f (b.frames f).state ∷ [])

-- the entries of frames 0 to n - 1
abbrev pub promises : Behavior → ℕ → List Promise
promises b zero = []
promises b (suc n) = promises b n ++ frame_promises b n

-- the first n entries of all frames; a frame has two or more, so n frames hold so many
abbrev pub first_promises : Behavior → ℕ → List Promise
first_promises b n = take n (promises b n)

-- what a task of a program is to do over these streams
abbrev pub behavior_of : Task → List (List ℤ) → Behavior
behavior_of task streams =
    record { period = task.period; deadline = task.deadline; frames = frame_of task streams }
