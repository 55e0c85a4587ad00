-- Worked examples of arithmetic.
use Rattle.std.specs.Prelude.{ℤ, pos, negsuc, List, [], ◌∷◌}
use Rattle.tcel_num.specs.declared.op.Op.{Op}
use Rattle.tcel_num.specs.declared.op.Op.TheVariants.{Add, Sub, Mul, Div, Rem, Neg, Not, And, Or, Equal, Unequal, Less, LessOrEqual, Greater, GreaterOrEqual}

-- the least and the greatest number of 64 bits
abbrev pub least : ℤ
least = negsuc 9223372036854775807

abbrev pub greatest : ℤ
greatest = pos 9223372036854775807

-- operators, their operands, and what they give
abbrev pub binary_examples : List (Op × ℤ × ℤ × ℤ)
binary_examples =
    (Add, greatest, pos 1, least) ∷ (Sub, least, pos 1, greatest) ∷ (Mul, greatest, pos 2, negsuc 1) ∷ (Mul, least, negsuc 0, least)
    ∷ (Div, pos 7, negsuc 1, negsuc 2) ∷ (Div, negsuc 6, pos 2, negsuc 2) ∷ (Div, pos 4, pos 0, pos 0) ∷ (Div, least, negsuc 0, least)
    ∷ (Rem, pos 7, negsuc 1, pos 1) ∷ (Rem, negsuc 6, pos 2, negsuc 0) ∷ (Rem, pos 4, pos 0, pos 0) ∷ (Rem, least, negsuc 0, pos 0)
    ∷ (And, pos 2, negsuc 0, pos 1) ∷ (And, pos 2, pos 0, pos 0) ∷ (Or, pos 0, pos 0, pos 0) ∷ (Or, pos 0, pos 5, pos 1)
    ∷ (Equal, negsuc 0, negsuc 0, pos 1) ∷ (Unequal, negsuc 0, negsuc 0, pos 0) ∷ (Less, least, greatest, pos 1) ∷ (LessOrEqual, pos 1, pos 0, pos 0)
    ∷ (Greater, pos 1, negsuc 0, pos 1) ∷ (GreaterOrEqual, least, least, pos 1) ∷ []

abbrev pub unary_examples : List (Op × ℤ × ℤ)
unary_examples =
    (Neg, pos 5, negsuc 4) ∷ (Neg, least, least) ∷ (Neg, pos 0, pos 0) ∷ (Not, pos 0, pos 1) ∷ (Not, negsuc 4, pos 0) ∷ []
