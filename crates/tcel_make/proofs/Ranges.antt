-- Texts over the numbers of a range, and over so many turns.
use Rattle.std.proofs.Common.{◌≡◌, ℕ, zero, suc, ◌+◌, ◌-◌, ◌*◌, ◌<◌, ◌≤◌, List, ◌++◌, length, sym, ap, ◌∙◌, arith}
use Rattle.std.specs.List.{flat_map, range_with_len, repeat}
use Rattle.std.proofs.Math.Nat.{mul-suc}
use Rattle.std.proofs.lemmas.List.{append_assoc, length-append}

-- the first piece of what is left is put
put_first : (text piece rest next all : List ℕ) → next ≡ text ++ piece → text ++ (piece ++ rest) ≡ all → next ++ rest ≡ all
put_first text piece rest next all put kept = ap (λ t. t ++ rest) put ∙ append_assoc text piece rest ∙ kept

-- the next number of a range
pub flat_next : (f : ℕ → List ℕ) (a b : ℕ) (text next all : List ℕ) → a < b → next ≡ text ++ f a → text ++ flat_map f (range_with_len a (b - a)) ≡ all →
    next ++ flat_map f (range_with_len (a + 1) (b - (a + 1))) ≡ all
flat_next f a b text next all less put kept =
    let one : b - a ≡ suc (b - (a + 1)) = omega arith in
    put_first text (f a) (flat_map f (range_with_len (a + 1) (b - (a + 1)))) next all put (ap (λ n. text ++ flat_map f (range_with_len a n)) (sym one) ∙ kept)

-- the next turn
pub repeat_next : (line : List ℕ) (a b : ℕ) (text next all : List ℕ) → a < b → next ≡ text ++ line → text ++ repeat (b - a) line ≡ all →
    next ++ repeat (b - (a + 1)) line ≡ all
repeat_next line a b text next all less put kept =
    let one : b - a ≡ suc (b - (a + 1)) = omega arith in
    put_first text line (repeat (b - (a + 1)) line) next all put (ap (λ n. text ++ repeat n line) (sym one) ∙ kept)

-- what stands before the rest of a text is no longer than the text
pub no_longer : (text rest all : List ℕ) (bound : ℕ) → text ++ rest ≡ all → length all ≤ bound → length text ≤ bound
no_longer text rest all bound whole short = omega (arith, length-append text rest, ap length whole)

-- no piece has more bytes than so many, nor all more than these for each number
pub flat_short : (f : ℕ → List ℕ) (bound a n : ℕ) → ((j : ℕ) → j < a + n → length (f j) ≤ bound) → length (flat_map f (range_with_len a n)) ≤ bound * n
flat_short f bound a zero each = omega arith
flat_short f bound a (suc n) each =
    let others : length (flat_map f (range_with_len (a + 1) n)) ≤ bound * n = flat_short f bound (a + 1) n (λ j less. each j (omega arith)) in
    let own : length (f a) ≤ bound = each a (omega arith) in
    omega (arith, length-append (f a) (flat_map f (range_with_len (a + 1) n)), mul-suc bound n)
