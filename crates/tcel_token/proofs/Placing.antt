-- The place behind more bytes.
use Rattle.std.proofs.Common.{◌≡◌, ◌≤◌, ℕ, suc, ◌+◌, Bool, true, false, cond, List, [], ◌∷◌, ◌++◌, length, refl, sym, ap, ◌∙◌, arith, append_assoc}
use Rattle.std.specs.Prelude.{not, count_by, if◌then◌else◌}
use Rattle.std.specs.List.{list_all, prefix_len, suffix_len}
use Rattle.std.proofs.lemmas.Bool.{and_parts}
use Rattle.std.proofs.lemmas.List.{append-nil, reverse-append}
use Rattle.std.proofs.lemmas.List.Sums.{sum_by_push, count_by-le-length, suffix_len-le-length}
use Rattle.tcel_num.specs.declared.at.At.{At}
use Rattle.tcel_token.specs.Pieces.{in_line, is_line_feed}
use Rattle.tcel_token.specs.Places.{place}

-- the place one byte on
abbrev pub next_place : At → ℕ → At
next_place at b = if is_line_feed b then record { line = at.line + 1; column = 1 } else record { line = at.line; column = at.column + 1 }

columns_push : (before : List ℕ) (b : ℕ) → suffix_len in_line (before ++ b ∷ []) ≡ cond (in_line b) (1 + suffix_len in_line before) 0
columns_push before b = ap (prefix_len in_line) (reverse-append before (b ∷ []))

lines_push : (before : List ℕ) (b : ℕ) → count_by is_line_feed (before ++ b ∷ []) ≡ count_by is_line_feed before + cond (is_line_feed b) 1 0
lines_push before b = sum_by_push (λ x. cond (is_line_feed x) 1 0) before b

-- a place by its numbers
abbrev pub at_place : ℕ → ℕ → At
at_place line column = record { line = line; column = column }

next_by : (lines column : ℕ) (is : Bool) →
    at_place (lines + cond is 1 0 + 1) (cond (not is) (1 + column) 0 + 1)
    ≡ cond is (at_place (lines + 1 + 1) 1) (at_place (lines + 1) (column + 1 + 1))
next_by lines column true = refl
next_by lines column false =
    let l : lines + 0 + 1 ≡ lines + 1 = omega arith in
    let c : 1 + column + 1 ≡ column + 1 + 1 = omega arith in
    rw (l, c) refl

pub place_push : (before : List ℕ) (b : ℕ) → place (before ++ b ∷ []) ≡ next_place (place before) b
place_push before b =
    rw (lines_push before b, columns_push before b) (next_by (count_by is_line_feed before) (suffix_len in_line before) (is_line_feed b))

stays_by : (at : At) (b : ℕ) (is : Bool) → not is ≡ true → cond is (at_place (at.line + 1) 1) (at_place at.line (at.column + 1)) ≡ at_place at.line (at.column + 1)
stays_by at b true h = cc
stays_by at b false h = refl

columns_on : (at next : At) (n : ℕ) (end : At) → next ≡ at_place at.line (at.column + 1) → end ≡ at_place next.line (next.column + n) →
    end ≡ at_place at.line (at.column + suc n)
columns_on at next n end one more =
    let count : at.column + 1 + n ≡ at.column + suc n = omega arith in
    more ∙ rw (one, count) refl

-- bytes within a line are columns
pub place_columns : (bytes before : List ℕ) → list_all in_line bytes ≡ true →
    place (before ++ bytes) ≡ at_place (place before).line ((place before).column + length bytes)
place_columns [] before h =
    let at = place before in
    let none : at.column + 0 ≡ at.column = omega arith in
    rw (append-nil, none) refl
place_columns (b ∷ bs) before h =
    let parts = and_parts (in_line b) (list_all in_line bs) h in
    let at = place before in
    let one = place_push before b ∙ stays_by at b (is_line_feed b) parts.0 in
    ap place (sym (append_assoc before (b ∷ []) bs)) ∙ columns_on at (place (before ++ b ∷ [])) (length bs) _ one (place_columns bs (before ++ b ∷ []) parts.1)

-- a line feed ends the line
pub place_line : (before : List ℕ) → place (before ++ 10 ∷ []) ≡ at_place ((place before).line + 1) 1
place_line before = place_push before 10

-- a text has no more lines and columns than bytes, and one
pub place_small : (bytes : List ℕ) → ((place bytes).line ≤ length bytes + 1) × ((place bytes).column ≤ length bytes + 1)
place_small bytes = (omega (arith, count_by-le-length is_line_feed bytes), omega (arith, suffix_len-le-length in_line bytes))
