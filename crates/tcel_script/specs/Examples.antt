-- Worked examples of scripts.
use Rattle.std.specs.Prelude.{ℕ, ◌++◌, pos, negsuc, List, [], ◌∷◌, Result, Ok, Err, codes, flat_map}
use Rattle.tcel_num.specs.declared.port_row.PortRow.{PortRow}
use Rattle.tcel_script.specs.declared.fail.ScriptFail.{ScriptFail}
use Rattle.tcel_script.specs.declared.fail.ScriptFail.TheVariants.{BadLine, NoPort, PortTwice, Number}
use Rattle.tcel_script.specs.Script.{Streams}

-- lines, each with a line feed
abbrev pub text : List (List ℕ) → List ℕ
text lines = flat_map (λ line. line ++ 10 ∷ []) lines

-- one task `t` with the input `s`, and one with two inputs
abbrev pub one_port : List PortRow
one_port = record { task = codes "t"; inputs = codes "s" ∷ [] } ∷ []

abbrev pub three_ports : List PortRow
three_ports = record { task = codes "t"; inputs = codes "s" ∷ [] } ∷ record { task = codes "u"; inputs = codes "a" ∷ codes "b" ∷ [] } ∷ []

-- scripts for one port, and what they say
abbrev pub scripts : List (List ℕ × Result Streams ScriptFail)
scripts =
    (codes "t s 9223372036854775807 -9223372036854775808 -0 007", Ok (((pos 9223372036854775807 ∷ negsuc 9223372036854775807 ∷ pos 0 ∷ pos 7 ∷ []) ∷ []) ∷ []))
    ∷ (text (codes "# x" ∷ [] ∷ (codes "t" ++ 9 ∷ codes "s 5" ++ 13 ∷ []) ∷ []), Ok (((pos 5 ∷ []) ∷ []) ∷ []))
    ∷ (text [], Ok (([] ∷ []) ∷ []))
    ∷ (text (codes "# x" ∷ [] ∷ codes "t" ∷ []), Err (BadLine 3))
    ∷ (text (codes "t q 1" ∷ codes "t" ∷ []), Err (NoPort 1))
    ∷ (text (codes " # x" ∷ []), Err (NoPort 1))
    ∷ (text (codes "t s 1" ∷ codes "t s x" ∷ []), Err (PortTwice 2))
    ∷ (text (codes "t s 9223372036854775808" ∷ []), Err (Number 1))
    ∷ (text (codes "t s -9223372036854775809" ∷ []), Err (Number 1))
    ∷ (text (codes "t s 00000000000000000001" ∷ []), Err (Number 1))
    ∷ (text (codes "t s -" ∷ []), Err (Number 1))
    ∷ (text (codes "t s +5" ∷ []), Err (Number 1))
    ∷ (codes "t s 5" ++ 13 ∷ [], Err (Number 1)) ∷ []
