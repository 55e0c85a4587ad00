-- The 256 bytes of the image `echo` of the worked examples.
use Rattle.std.specs.Prelude.{ℕ, List, [], ◌∷◌, ◌++◌, take, drop, codes}

-- a number below 256 in four bytes
abbrev four : ℕ → List ℕ
four n = n ∷ 0 ∷ 0 ∷ 0 ∷ []

abbrev pub echo_bytes : List ℕ
echo_bytes =
    -- magic, version, one task, fifteen costs
    codes "TCEL" ++ four 1 ++ four 1
    ++ four 1 ++ four 1 ++ four 1 ++ four 1 ++ four 1 ++ four 1 ++ four 1 ++ four 1 ++ four 1 ++ four 1 ++ four 1 ++ four 1 ++ four 1 ++ four 1 ++ four 1
    -- t with period 10, not sliced; input s, output o, one state n with the first value 0; two cells
    ++ 1 ∷ codes "t" ++ four 10 ++ 0 ∷ 1 ∷ 0 ∷ 1 ∷ codes "s" ++ 1 ∷ 0 ∷ 1 ∷ codes "o" ++ 1 ∷ 0 ∷ 1 ∷ codes "n" ++ 0 ∷ four 1 ++ four 0 ++ four 0 ++ four 2
    -- nine instructions
    ++ four 9
    ++ 10 ∷ 0 ∷ 0 ∷ 0 ∷ four 0 ++ four 1 ++ four 0
    ++ 2 ∷ 0 ∷ 0 ∷ 0 ∷ four 1 ++ four 0 ++ four 0
    ++ 11 ∷ 0 ∷ 1 ∷ 0 ∷ four 0 ++ four 0 ++ four 0
    ++ 2 ∷ 0 ∷ 0 ∷ 0 ∷ four 0 ++ four 0 ++ four 0
    ++ 1 ∷ 0 ∷ 1 ∷ 0 ∷ four 1 ++ four 0 ++ four 0
    ++ 6 ∷ 1 ∷ 2 ∷ 0 ∷ four 0 ++ four 0 ++ four 0
    ++ 3 ∷ 0 ∷ 1 ∷ 0 ∷ four 0 ++ four 0 ++ four 0
    ++ 14 ∷ 0 ∷ 0 ∷ 0 ∷ four 0 ++ four 0 ++ four 0
    ++ 15 ∷ 0 ∷ 0 ∷ 0 ∷ four 0 ++ four 0 ++ four 0

-- the bytes with another version, and with a cost of dispatch behind the others
abbrev pub with_version : ℕ → List ℕ → List ℕ
with_version version bytes = take 4 bytes ++ four version ++ drop 8 bytes

abbrev pub with_dispatch : ℕ → List ℕ → List ℕ
with_dispatch ticks bytes = with_version 2 (take 72 bytes ++ four ticks ++ drop 72 bytes)
