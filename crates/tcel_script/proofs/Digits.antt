-- Digits and the numbers that they write.
use Rattle.std.proofs.Common.{◌≡◌, ℕ, ◌+◌, ◌*◌, ◌^◌, ◌<◌, ◌≤◌, true, List, arith, lit<}
use Rattle.std.proofs.Math.Nat.{pow-le-pow_right}
use Rattle.std.specs.Prelude.{ℤ, ◌++◌, Option, option_map}
use Rattle.std.specs.Char.{is_ascii_digit}
use Rattle.std.proofs.lemmas.Bool.Decides.{nat_tests}

-- up to nineteen digits fit 64 bits
pub nineteen_fit : (n places : ℕ) → n < 10 ^ places → places < 19 → 10 * n + 9 < 2 ^ 64
nineteen_fit n places h lt =
    let most : 10 ^ places ≤ 10 ^ 18 = pow-le-pow_right {n = 10} (lit< tt) {i = places} {j = 18} (omega arith) in
    omega arith

pub digit_most : (byte : ℕ) → true ≡ is_ascii_digit byte → byte ≤ 57
digit_most byte h = grind (arith, nat_tests)

-- numbers in front of others, if those are numbers
abbrev pub behind : List ℤ → Option (List ℤ) → Option (List ℤ)
behind front numbers = option_map (λ more. front ++ more) numbers
