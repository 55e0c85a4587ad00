-- Arithmetic of expressions, on numbers of 64 bits with a sign. Truth is 1 or 0.
use Rattle.std.specs.Prelude.{ℤ, pos, neg_ℤ, ◌+ℤ◌, ◌-ℤ◌, ◌*ℤ◌, int_div, int_rem, int_lt, int_le, Bool, true, false, not, ◌&&◌, ◌||◌, if◌then◌else◌}
use Rattle.std.specs.Ordering.{int_eq}
use Rattle.std.specs.Int.{w64, int_wrap}
use Rattle.tcel_num.specs.declared.op.Op.{Op}
use Rattle.tcel_num.specs.declared.op.Op.TheVariants.{Add, Sub, Mul, Div, Rem, Neg, Not, And, Or, Equal, Unequal, Less, LessOrEqual, Greater, GreaterOrEqual}

-- the whole number, brought into -2^63 to 2^63 - 1 by a multiple of 2^64
abbrev pub wrapped : ℤ → ℤ
wrapped z = int_wrap w64 z

-- whether a truth operand holds
abbrev pub holds : ℤ → Bool
holds z = not (int_eq z (pos 0))

-- the number of a truth value
abbrev pub truth : Bool → ℤ
truth b = if b then pos 1 else pos 0

-- division rounds towards 0, and gives 0 where the divisor is 0
abbrev pub quotient : ℤ → ℤ → ℤ
quotient a b = if int_eq b (pos 0) then pos 0 else wrapped (int_div a b)

-- the remainder has the dividend's sign, and is 0 where the divisor is 0
abbrev pub remainder : ℤ → ℤ → ℤ
remainder a b = if int_eq b (pos 0) then pos 0 else int_rem a b

-- the operators that take one operand
abbrev pub is_unary : Op → Bool
is_unary Neg = true
is_unary Not = true
is_unary _ = false

-- what an operator of one operand gives, and 0 for any other operator
abbrev pub unary_value : Op → ℤ → ℤ
unary_value Neg a = wrapped (neg_ℤ a)
unary_value Not a = truth (not (holds a))
unary_value _ a = pos 0

-- what an operator of two operands gives, and 0 for any other operator
abbrev pub binary_value : Op → ℤ → ℤ → ℤ
binary_value Add a b = wrapped (a +ℤ b)
binary_value Sub a b = wrapped (a -ℤ b)
binary_value Mul a b = wrapped (a *ℤ b)
binary_value Div a b = quotient a b
binary_value Rem a b = remainder a b
binary_value And a b = truth (holds a && holds b)
binary_value Or a b = truth (holds a || holds b)
binary_value Equal a b = truth (int_eq a b)
binary_value Unequal a b = truth (not (int_eq a b))
binary_value Less a b = truth (int_lt a b)
binary_value LessOrEqual a b = truth (int_le a b)
binary_value Greater a b = truth (int_lt b a)
binary_value GreaterOrEqual a b = truth (int_le b a)
binary_value _ a b = pos 0
