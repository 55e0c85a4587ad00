-- What 64 bits keep of an exact quotient.
use Rattle.std.proofs.Common.{◌≡◌, ℕ, zero, suc, ◌/◌, ◌%◌, ◌^◌, ◌<◌, ◌≤◌, ℤ, pos, negsuc, neg_ℤ, false, refl, sym, ap, ◌∙◌, arith}
use Rattle.std.proofs.Math.Nat.{mod-eq_of_lt, div-le_self}
use Rattle.std.proofs.lemmas.Int.{to_z-of_z}
use Rattle.std.proofs.lemmas.Bool.Decides.{nat_tests}
use Rattle.std.specs.Int.{int_wrap}
use Rattle.std.specs.Prelude.{int_div, FitsSigned}
use Rattle.std.specs.Ordering.{int_eq}
use mir.Val.{to_z, of_z}
use mir.Syntax.{w64}
use lib.Signed.{mag}
use Rattle.tcel_num.specs.Arithmetic.{quotient, wrapped}

-- what is written in 64 bits and read back is the wrapped number
read_back : (z : ℤ) → mag z < 2 ^ 64 → to_z w64 (of_z w64 z) ≡ wrapped z
unfolding int_wrap
read_back (pos n) h = ap (to_z w64) (sym (mod-eq_of_lt h))
read_back (negsuc n) h =
    let e : n % 2 ^ 64 ≡ n = mod-eq_of_lt h in
    ap (to_z w64) (omega arith)

mag_opposite : (n : ℕ) → mag (neg_ℤ (pos n)) ≤ n
mag_opposite zero = omega arith
mag_opposite (suc n) = omega arith

-- a quotient is no further from 0 than the dividend
mag_quotient : (a b : ℤ) → mag a < 2 ^ 63 → mag (int_div a b) < 2 ^ 64
mag_quotient (pos a) (pos b) h = omega (arith, div-le_self a b)
mag_quotient (pos a) (negsuc b) h = omega (arith, mag_opposite (a / suc b), div-le_self a (suc b))
mag_quotient (negsuc a) (pos b) h = omega (arith, mag_opposite (suc a / b), div-le_self (suc a) b)
mag_quotient (negsuc a) (negsuc b) h = omega (arith, div-le_self (suc a) (suc b))

positive : (n : ℕ) → int_eq (pos (suc n)) (pos 0) ≡ false
positive n = grind (arith, nat_tests)

not_zero : (b : ℤ) → (of_z w64 b ≡ 0 → ⊥) → int_eq b (pos 0) ≡ false
not_zero (pos zero) h = absurd (h refl)
not_zero (pos (suc n)) h = positive n
not_zero (negsuc n) h = refl

-- the quotient of 64 bits by a divisor other than 0
pub quotient_kept : (a b r : ℤ) → FitsSigned w64 a → FitsSigned w64 b → FitsSigned w64 r → (of_z w64 b ≡ 0 → ⊥) → r ≡ to_z w64 (of_z w64 (int_div (to_z w64 (of_z w64 a)) (to_z w64 (of_z w64 b)))) → to_z w64 (of_z w64 r) ≡ quotient a b
quotient_kept a b r fa fb fr h e =
    let nonzero = not_zero b h in
    let exact : r ≡ to_z w64 (of_z w64 (int_div a b)) = simp to_z-of_z at e in
    to_z-of_z w64 r fr ∙ exact ∙ read_back (int_div a b) (mag_quotient a b fa.sfits) ∙ rw nonzero refl
