-- What a run of a body shows where it stands: its events with their windows, given by bounds that the blocks around narrow.
use Rattle.std.specs.Prelude.{◌≡◌, ℕ, ◌==◌, max, Bool, false, ℤ, List, [], ◌∷◌, ◌++◌, length, unwrap_or, if◌then◌else◌}
use Rattle.tcel_core.specs.declared.bounds.Bounds.{Bounds}
use Rattle.tcel_core.specs.declared.event.Event.{Event}
use Rattle.tcel_core.specs.Frames.{restart, shown}
use Rattle.tcel_core.specs.Language.{Task, Window}
use Rattle.tcel_core.specs.Outcome.{Occurrence, Outcome}
use Rattle.tcel_core.specs.Windows.{earliest, latest, lesser}

-- the bounds of a frame with this deadline, which is entered behind so many events
abbrev pub frame_bounds : ℕ → ℕ → Bounds
frame_bounds deadline entered = record { earliest = 0; latest = deadline; lead = deadline; entered = entered }

-- the latest time of an event that comes first in the innermost block, or doesn't
abbrev pub last_time : Bounds → Bool → ℕ
last_time b leads = if leads then b.lead else b.latest

-- the bounds in a block that is entered behind so many events
abbrev pub narrowed : Window → ℕ → Bounds → Bounds
narrowed window events b =
    record {
      earliest = max b.earliest (unwrap_or window.after 0);
      latest = lesser window.within b.latest;
      lead = lesser window.within (lesser window.before (last_time b (events == b.entered)));
      entered = events;
    }

-- an event within bounds
abbrev pub bounded : Bounds → Bool → Occurrence → Event
bounded b leads e =
    record {
      port = e.port;
      kind = e.kind;
      value = e.value;
      earliest = max b.earliest (earliest e.around);
      latest = latest (last_time b leads) e.around;
    }

-- events within bounds, of which the first comes first or doesn't
abbrev pub all_bounded : Bounds → Bool → List Occurrence → List Event
all_bounded b leads [] = []
all_bounded b leads (e ∷ es) = bounded b leads e ∷ all_bounded b false es

-- the events of a run within bounds, behind those that were there
abbrev pub with_events : Bounds → List Event → List Occurrence → List Event
with_events b events es = events ++ all_bounded b (length events == b.entered) es

-- what a run left: its words, its inputs, and its events behind those that were there
pub record Left (b : Bounds) (before : List Event) (r : Outcome) (cells : List ℤ) (inputs : List (List ℤ)) (events : List Event) : Type 0 where
  pub words : cells ≡ r.memory.cells
  pub streams : inputs ≡ r.memory.inputs
  pub shows : events ≡ with_events b before r.events

-- a frame of a task that ran as its body means: its events stand behind those that were there, and what is left is what the next one starts with
pub record IsFrame (task : Task) (before : List Event) (r : Outcome) (cells : List ℤ) (inputs : List (List ℤ)) (events : List Event) : Type 0 where
  pub shows : events ≡ before ++ (shown task.deadline task.vars r).events
  pub next : record { cells = cells; inputs = inputs } ≡ restart task.vars r.memory
