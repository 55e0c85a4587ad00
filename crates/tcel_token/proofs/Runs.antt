-- Runs: the bytes at the front of a list that pass a test.
use Rattle.std.proofs.Common.{◌≡◌, ◌<◌, ℕ, ◌+◌, Bool, true, false, cond, List, [], ◌∷◌, take, drop, refl, arith, one-add}
use Rattle.std.specs.List.{list_all, prefix_len}
use Rattle.tcel_token.specs.Lexeme.{starts}
use Rattle.tcel_token.specs.Pieces.{stops}

front_passes : (p : ℕ → Bool) (x : ℕ) (xs : List ℕ) (n : ℕ) (b : Bool) → p x ≡ b →
    list_all p (take n xs) ≡ true → list_all p (take (cond b (1 + n) 0) (x ∷ xs)) ≡ true
front_passes p x xs n true h all = rw one-add (rw (h, all) refl)
front_passes p x xs n false h all = refl

-- what passes is passed
pub run_passes : (p : ℕ → Bool) (xs : List ℕ) → list_all p (take (prefix_len p xs) xs) ≡ true
run_passes p [] = refl
run_passes p (x ∷ xs) = front_passes p x xs (prefix_len p xs) (p x) refl (run_passes p xs)

rest_stops : (p : ℕ → Bool) (x : ℕ) (xs : List ℕ) (n : ℕ) (b : Bool) → p x ≡ b →
    stops p (drop n xs) ≡ true → stops p (drop (cond b (1 + n) 0) (x ∷ xs)) ≡ true
rest_stops p x xs n true h at_end = rw one-add at_end
rest_stops p x xs n false h at_end = rw h refl

-- and a run stops at what doesn't pass
pub run_stops : (p : ℕ → Bool) (xs : List ℕ) → stops p (drop (prefix_len p xs) xs) ≡ true
run_stops p [] = refl
run_stops p (x ∷ xs) = rest_stops p x xs (prefix_len p xs) (p x) refl (run_stops p xs)

-- a run that starts isn't empty
pub run_starts : (p : ℕ → Bool) (xs : List ℕ) → starts p xs ≡ true → 0 < prefix_len p xs
run_starts p [] h = cc
run_starts p (x ∷ xs) h = rw h (omega arith)
