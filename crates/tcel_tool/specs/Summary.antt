-- The text of `trial`: a summary of a run.
use Rattle.std.specs.Prelude.{ℕ, ℤ, pos, ◌+ℤ◌, Bool, true, false, List, [], ◌∷◌, ◌++◌, length, codes}
use Rattle.std.specs.Fmt.{decimal, signed_decimal}
use Rattle.std.specs.List.{count_by}
use Rattle.tcel_image.specs.Machine.{Streams, trace}
use Rattle.tcel_num.specs.Arithmetic.{wrapped}
use Rattle.tcel_num.specs.Entry.{Entry, What, receive, send, end}
use Rattle.tcel_tool.specs.Headline.{image_for}
use Rattle.tcel_tool.specs.SetChoice.{Choice}

-- whether an entry receives or sends, whether it ends a frame, and the value that it sends
abbrev pub is_event : What → Bool
is_event (receive port value) = true
is_event (send port value) = true
is_event _ = false

abbrev pub is_end : What → Bool
is_end (end state) = true
is_end _ = false

abbrev pub sent : What → ℤ
sent (send port value) = value
sent _ = pos 0

-- the entries that receive or send
abbrev pub events_in : List Entry → ℕ
events_in entries = count_by (λ (entry : Entry). is_event entry.what) entries

-- those that end a frame
abbrev pub frames_in : List Entry → ℕ
frames_in entries = count_by (λ (entry : Entry). is_end entry.what) entries

-- the sum of all sent values
abbrev pub sent_in : List Entry → ℤ
sent_in [] = pos 0
sent_in (entry ∷ entries) = sent entry.what +ℤ sent_in entries

abbrev pub number_line : List ℕ → ℕ → List ℕ
number_line word number = word ++ (decimal number ++ codes "\n")

-- the number of tasks and of sliced ones, the ticks, the events, the ended frames, and the sum of the sent values in 64 bits, a line each
abbrev pub entries_text : ℕ → ℕ → ℕ → List Entry → List ℕ
entries_text tasks sliced ticks entries =
    number_line (codes "tasks ") tasks
    ++ (number_line (codes "sliced ") sliced
    ++ (number_line (codes "ticks ") ticks
    ++ (number_line (codes "events ") (events_in entries)
    ++ (number_line (codes "frames ") (frames_in entries) ++ (codes "sum " ++ (signed_decimal (wrapped (sent_in entries)) ++ codes "\n"))))))

-- of the first so many ticks of the choice's image on these streams
abbrev pub summary_text : Choice → Streams → ℕ → List ℕ
summary_text c streams ticks = entries_text (length c.set) c.sliced ticks (trace (image_for c) streams ticks)
