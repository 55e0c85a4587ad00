-- The window of an event: the earliest and the latest time that it may have after its frame's release.
use Rattle.std.specs.Prelude.{ℕ, min, max, List, [], ◌∷◌, Option, None, Some, unwrap_or, if◌then◌else◌}
use Rattle.tcel_core.specs.declared.event.Event.{Event}
use Rattle.tcel_core.specs.Outcome.{EnclosingBlock, Occurrence}

-- the lesser of the two, where the first is there
abbrev pub lesser : Option ℕ → ℕ → ℕ
lesser None time = time
lesser (Some bound) time = min bound time

-- `start before` binds the first event of its block
abbrev pub start_bound : EnclosingBlock → Option ℕ
start_bound b = if b.leads then b.window.before else None

-- the greatest `start after` of the blocks around an event, or 0
abbrev pub earliest : List EnclosingBlock → ℕ
earliest [] = 0
earliest (b ∷ bs) = max (unwrap_or b.window.after 0) (earliest bs)

-- the least of the frame's deadline, each `finish within` around an event, and each `start before` that binds it
abbrev pub latest : ℕ → List EnclosingBlock → ℕ
latest deadline [] = deadline
latest deadline (b ∷ bs) = lesser b.window.within (lesser (start_bound b) (latest deadline bs))

-- an event with its window, in a frame with this deadline
abbrev pub event_of : ℕ → Occurrence → Event
event_of deadline e =
    record {
      port = e.port;
      kind = e.kind;
      value = e.value;
      earliest = earliest e.around;
      latest = latest deadline e.around;
    }
