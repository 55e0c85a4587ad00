-- Worked summaries of runs.
use Rattle.std.specs.Prelude.{ℕ, pos, List, [], ◌∷◌, codes}
use Rattle.tcel_num.specs.Entry.{Entry, receive, send, first, end}
use Rattle.tcel_tool.specs.Summary.{entries_text}

-- two tasks show four events, of which two send, and the end of a frame; the sum of the sent values is 2^63 + 1
abbrev pub shown : List Entry
shown =
    record { time = 1; task = 0; frame = 0; what = receive 0 (pos 4) }
    ∷ record { time = 3; task = 0; frame = 0; what = send 1 (pos 9223372036854775807) }
    ∷ record { time = 4; task = 0; frame = 0; what = first }
    ∷ record { time = 6; task = 1; frame = 0; what = send 0 (pos 2) }
    ∷ record { time = 7; task = 0; frame = 0; what = end (pos 5 ∷ []) }
    ∷ record { time = 9; task = 0; frame = 1; what = receive 0 (pos 3) }
    ∷ []

abbrev pub shown_text : List ℕ
shown_text = entries_text 2 1 9 shown

abbrev pub shown_wanted : List ℕ
shown_wanted = codes "tasks 2\nsliced 1\nticks 9\nevents 4\nframes 1\nsum -9223372036854775807\n"

-- one task in no ticks
abbrev pub nothing_text : List ℕ
nothing_text = entries_text 1 0 0 []

abbrev pub nothing_wanted : List ℕ
nothing_wanted = codes "tasks 1\nsliced 0\nticks 0\nevents 0\nframes 0\nsum 0\n"
