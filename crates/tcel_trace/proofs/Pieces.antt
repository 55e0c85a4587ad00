-- How the pieces of a line come one after another.
use Rattle.std.proofs.Common.{◌≡◌, ℤ, pos, ◌-◌, ◌<◌, List, [], ◌∷◌, ◌++◌, length, get_or, take, drop, map, ap, sym, append-nil, arith}
use Rattle.std.proofs.lemmas.List.{take_rest}
use Rattle.std.specs.Fmt.{signed_decimal}
use Rattle.std.specs.List.{join_with_byte}
use Rattle.tcel_trace.specs.Pieces.{more_numbers}

-- numbers with a comma between two: the first, and the others each behind a comma
pub numbers_joined : (first : ℤ) (rest : List ℤ) → join_with_byte 44 (map signed_decimal (first ∷ rest)) ≡ signed_decimal first ++ more_numbers rest
numbers_joined first [] = sym (append-nil (signed_decimal first))
numbers_joined first (second ∷ rest) = ap (λ text. signed_decimal first ++ (44 ∷ text)) (numbers_joined second rest)

-- the same of a list that is not empty, as a slice pattern takes it apart
pub numbers_split : (numbers : List ℤ) → 0 < length numbers → join_with_byte 44 (map signed_decimal numbers) ≡ signed_decimal (get_or numbers 0 (pos 0)) ++ more_numbers (take (length numbers - 1) (drop 1 numbers))
numbers_split [] some = absurd (omega arith)
numbers_split (first ∷ rest) some = rw (take_rest (first ∷ rest) 1) (numbers_joined first rest)
