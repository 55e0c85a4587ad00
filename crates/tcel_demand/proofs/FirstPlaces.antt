-- The first place of a list at which a test passes.
use Rattle.std.proofs.Common.{◌≡◌, ℕ, ◌<◌, Bool, false, List, length, get_or, Some, None, arith, inl, inr}
use Rattle.std.specs.List.{position_or_len}
use Rattle.std.specs.Prelude.{position}
use Rattle.std.proofs.lemmas.Bool.{cases_lt, lt-ltb, cond-true}
use Rattle.std.proofs.lemmas.List.Sums.{fails_before_first}

-- where none passes, each fails
pub position-none : {X : Type 0} (p : X → Bool) (xs : List X) → position p xs ≡ None → (k : ℕ) (d : X) → k < length xs → p (get_or xs k d) ≡ false
position-none p xs none k d at =
    elim (cases_lt (position_or_len p xs) (length xs)) [
      | inl found ↦ let some = cond-true _ (Some (position_or_len p xs)) None (lt-ltb (position_or_len p xs) (length xs) found) in absurd cc
      | inr past ↦ fails_before_first p xs k d (omega arith)
    ]
