-- The first fault of a list of lines.
use Rattle.std.proofs.Common.{◌≡◌, ℕ, zero, suc, ◌+◌, ◌-◌, ◌<◌, ◌≤◌, List, ◌∷◌, map, length, drop, get_or, Option, Some, None, refl, sym, ap, ◌∙◌, ⊎_elim, arith, drop-cons, add-one}
use Rattle.std.specs.List.{range_with_len}
use Rattle.std.proofs.lemmas.Bool.{cases_order}
use Rattle.std.proofs.lemmas.List.{length-drop}
use Rattle.tcel_script.specs.Script.{first_fault}

-- no fault at any place
pub no_fault : {E : Type 0} (f : ℕ → Option E) (from n : ℕ) → ((k : ℕ) → from ≤ k → k < from + n → f k ≡ None) → first_fault (map f (range_with_len from n)) ≡ None
no_fault f from zero h = refl
no_fault f from (suc n) h = rw (h from (omega arith) (omega arith)) (no_fault f (from + 1) n (λ k low high. h k (omega arith) (omega arith)))

-- the first place with a fault
pub fault_first : {E : Type 0} (f : ℕ → Option E) (from n k : ℕ) (fault : E) → from ≤ k → k < from + n → ((j : ℕ) → from ≤ j → j < k → f j ≡ None) → f k ≡ Some fault → first_fault (map f (range_with_len from n)) ≡ Some fault
fault_first f from zero k fault low high before h = absurd (omega arith)
fault_first f from (suc n) k fault low high before h =
    ⊎_elim (λ (e : from ≡ k). rw (ap f e ∙ h) refl)
    (⊎_elim (λ (lt : from < k). rw (before from (omega arith) lt) (fault_first f (from + 1) n k fault (omega arith) (omega arith) (λ j lo hi. before j (omega arith) hi) h))
    (λ (lt : k < from). absurd (omega arith)))
    (cases_order from k)

-- what is left of a list after so many elements begins with the next one
pub cut_cons : {X : Type 0} (xs : List X) (n : ℕ) (y : X) (ys : List X) (d : X) → drop n xs ≡ y ∷ ys → (n < length xs) × (get_or xs n d ≡ y) × (drop (n + 1) xs ≡ ys)
cut_cons xs n y ys d h =
    let long : length xs - n ≡ suc (length ys) = sym (length-drop n xs) ∙ ap length h in
    let inside : n < length xs = omega arith in
    let first : get_or xs n d ∷ drop (suc n) xs ≡ y ∷ ys = sym (drop-cons xs n d inside) ∙ h in
    (inside, cc, rw add-one cc)
