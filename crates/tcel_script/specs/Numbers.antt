-- Numbers of scripts.
use Rattle.std.specs.Prelude.{ℕ, ◌+◌, ◌-◌, ◌*◌, ◌^◌, ℤ, pos, neg_ℤ, Bool, ◌&&◌, ◌==◌, nat_lt, nat_le, if◌then◌else◌, List, [], ◌∷◌, length, fold, Option, Some, None, option_map, option_and_then}
use Rattle.std.specs.List.{list_all}
use Rattle.std.specs.Char.{is_ascii_digit}

-- 1 to 19 digits
abbrev pub is_digits : List ℕ → Bool
is_digits word = nat_lt 0 (length word) && (nat_le (length word) 19 && list_all is_ascii_digit word)

-- the number that digits write
abbrev pub magnitude : List ℕ → ℕ
magnitude digits = fold (λ n digit. 10 * n + (digit - 48)) 0 digits

-- the number behind a minus sign, and the one without a sign, where 64 bits hold it
abbrev pub negative_number : List ℕ → Option ℤ
negative_number digits = if is_digits digits && nat_le (magnitude digits) (2 ^ 63) then Some (neg_ℤ (pos (magnitude digits))) else None

abbrev pub plain_number : List ℕ → Option ℤ
plain_number digits = if is_digits digits && nat_lt (magnitude digits) (2 ^ 63) then Some (pos (magnitude digits)) else None

-- the number of a word, if it is one: perhaps a minus sign, then digits
abbrev pub number_of : List ℕ → Option ℤ
number_of [] = None
number_of (first ∷ rest) = if first == 45 then negative_number rest else plain_number (first ∷ rest)

-- the numbers of all words, if each is one
abbrev pub numbers_of : List (List ℕ) → Option (List ℤ)
numbers_of [] = Some []
numbers_of (word ∷ words) = option_and_then (λ number. option_map (λ numbers. number ∷ numbers) (numbers_of words)) (number_of word)
