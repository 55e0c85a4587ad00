-- What the code counts of a run, tick by tick.
use Rattle.std.specs.Prelude.{◌≡◌, ℕ, ◌+◌, ℤ, pos, ◌+ℤ◌, if◌then◌else◌, List, ◌++◌, codes}
use Rattle.std.specs.Fmt.{signed_decimal}
use Rattle.tcel_image.specs.Machine.{entries}
use Rattle.tcel_machine.specs.Run.{Run}
use Rattle.tcel_num.specs.Arithmetic.{wrapped}
use Rattle.tcel_num.specs.Entry.{Entry, What}
use Rattle.tcel_tool.specs.Summary.{events_in, frames_in, is_end, is_event, number_line, sent, sent_in}
use Rattle.tcel_tool.specs.declared.summary.Counts.{Counts}

-- before the first tick
abbrev pub none_counted : Counts
none_counted = record { events = 0; frames = 0; sum = pos 0 }

-- what an entry adds
pub record Adds (what : What) (old new : Counts) : Type 0 where
  pub events : new.events ≡ old.events + (if is_event what then 1 else 0)
  pub frames : new.frames ≡ old.frames + (if is_end what then 1 else 0)
  pub sum : new.sum ≡ wrapped (old.sum +ℤ sent what)

-- what entries add
pub record Counted (shown : List Entry) (old new : Counts) : Type 0 where
  pub events : new.events ≡ old.events + events_in shown
  pub frames : new.frames ≡ old.frames + frames_in shown
  pub sum : wrapped new.sum ≡ wrapped (old.sum +ℤ sent_in shown)

-- the entries of the next so many ticks
abbrev pub entries_ahead : Run → ℕ → List Entry
entries_ahead run ticks = entries run.image run.streams ticks run.machine

-- the lines for counts
abbrev pub counts_text : ℕ → ℕ → ℕ → Counts → List ℕ
counts_text tasks sliced ticks counts =
    number_line (codes "tasks ") tasks
    ++ (number_line (codes "sliced ") sliced
    ++ (number_line (codes "ticks ") ticks
    ++ (number_line (codes "events ") counts.events
    ++ (number_line (codes "frames ") counts.frames ++ (codes "sum " ++ (signed_decimal counts.sum ++ codes "\n"))))))
