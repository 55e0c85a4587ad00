-- The number that digits write.
use Rattle.std.proofs.Common.{◌≡◌, ◌<◌, ◌≤◌, ◌^◌, ℕ, ◌+◌, ◌-◌, ◌*◌, Bool, true, false, cond, List, length, get_or, take, leb, lit≤, refl, arith, Option, Some, None}
use Rattle.std.specs.Prelude.{ℤ, pos, nat_lt}
use Rattle.std.specs.Char.{is_ascii_digit, digit_value}
use Rattle.std.specs.List.{list_all}
use Rattle.std.specs.Str.Parse.{digits_value}
use Rattle.std.specs.Prelude.{FitsSigned}
use Rattle.std.specs.Int.{w64}
use Rattle.std.proofs.lemmas.Int.{ints, to_z-of_z}
use mir.Val.{to_z, of_z}
use Rattle.std.proofs.lemmas.Int.Digits.{digits_value_more}
use Rattle.std.proofs.lemmas.Str.Parse.{digits_value-take-le}
use Rattle.std.proofs.lemmas.Str.{digit_value_digit}
use Rattle.std.proofs.lemmas.List.Sums.{AllPass-from_list_all}
use Rattle.std.proofs.lemmas.Bool.{and_parts, le-ltb, leb-true, ltb-true}

digit_is : (c : ℕ) → is_ascii_digit c ≡ true → digit_value c ≡ c - 48
digit_is c h =
    let parts = and_parts (leb 48 c) (leb c 57) h in
    let sum = digit_value_digit c (leb-true 48 c parts.0, leb-true c 57 parts.1) in
    omega arith

-- each digit is one
pub digit_at : (ds : List ℕ) (i : ℕ) → i < length ds → list_all is_ascii_digit ds ≡ true → is_ascii_digit (get_or ds i 0) ≡ true
digit_at ds i lt all = AllPass-from_list_all is_ascii_digit ds all i 0 lt

-- one more digit
pub value_more : (ds : List ℕ) (i : ℕ) → i < length ds → list_all is_ascii_digit ds ≡ true →
    digits_value 10 (take (i + 1) ds) ≡ 10 * digits_value 10 (take i ds) + (get_or ds i 0 - 48)
value_more ds i lt all =
    let digit = digit_is (get_or ds i 0) (digit_at ds i lt all) in
    let more = digits_value_more 10 ds i lt in
    omega arith

-- the value as an answer
abbrev pub fitting : ℕ → Option ℤ
fitting n = cond (nat_lt n (2 ^ 63)) (Some (pos n)) None

pub too_large : (ds : List ℕ) (i : ℕ) → 2 ^ 63 ≤ digits_value 10 (take i ds) → fitting (digits_value 10 ds) ≡ None
too_large ds i h =
    let below = digits_value-take-le 10 ds i (lit≤ tt) in
    rw (le-ltb (digits_value 10 ds) (2 ^ 63) (omega arith)) refl

fitted_by : (n : ℕ) (z : ℤ) (b : Bool) → nat_lt n (2 ^ 63) ≡ b → Some z ≡ cond b (Some (pos n)) None → (z ≡ pos n) × (n < 2 ^ 63)
fitted_by n z true h e = (cc, ltb-true n (2 ^ 63) h)
fitted_by n z false h e = cc

-- an answer is the value, which fits
pub fitted : (n : ℕ) (z : ℤ) → Some z ≡ fitting n → (z ≡ pos n) × (n < 2 ^ 63)
fitted n z e = fitted_by n z (nat_lt n (2 ^ 63)) refl e

-- and it is kept in 64 bits
pub kept : (n : ℕ) → n < 2 ^ 63 → to_z w64 (of_z w64 (pos n)) ≡ pos n
kept n h = let fits : FitsSigned w64 (pos n) = omega (arith, ints) in to_z-of_z w64 (pos n) fits
