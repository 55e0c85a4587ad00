-- Worked texts of `mean`.
use Rattle.std.specs.Prelude.{ℕ, pos, List, [], ◌∷◌, ◌++◌, codes}
use Rattle.tcel_core.specs.Examples.{alarm, counter}
use Rattle.tcel_tool.specs.MeanText.{mean_pieces}

-- the alarm receives 1 and then 0
abbrev pub alarm_pieces : ℕ → List (List ℕ)
alarm_pieces frames = mean_pieces frames (alarm ∷ []) (((pos 1 ∷ pos 0 ∷ []) ∷ []) ∷ [])

abbrev pub alarm_text : List ℕ
alarm_text =
    codes "t 0 receive s 1 0 20\nt 0 send o 5 0 15\nt 0 end n=1\n"
    ++ codes "t 1 receive s 0 0 20\nt 1 send o 1 0 15\nt 1 send o 5 0 20\nt 1 end n=1\n"

-- the alarm behind the counter, each over its own streams, which give the counter 7 and the alarm nothing
abbrev pub both_pieces : List (List ℕ)
both_pieces = mean_pieces 1 (counter ∷ alarm ∷ []) (((pos 7 ∷ []) ∷ []) ∷ ([] ∷ []) ∷ [])

abbrev pub both_text : List ℕ
both_text =
    codes "t 0 receive s 7 0 10\nt 0 send o 7 0 10\nt 0 end n=1\n"
    ++ codes "t 0 receive s 0 0 20\nt 0 send o 0 0 15\nt 0 send o 5 0 20\nt 0 end n=0\n"
