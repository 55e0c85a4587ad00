-- Which task is released first.
use Rattle.std.proofs.Common.{◌≡◌, ℕ, zero, suc, ◌+◌, ◌<◌, ◌≤◌, ◌⊎◌, inl, inr, true, false, List, [], ◌∷◌, length, set, Option, Some, None, sym, ◌∙◌, subst, ⊎_elim, arith}
use Rattle.std.specs.Prelude.{nat_lt}
use Rattle.std.proofs.lemmas.Bool.{cases_Bool, cond-false, cond-true, ltb-false, ltb-true}
use Rattle.std.proofs.lemmas.Option.{same_Some}
use Rattle.tcel_link.specs.declared.run.Run.{Run}
use Rattle.tcel_link.specs.Runs.{first_release, ticks_left}
use Rattle.tcel_link.proofs.Standing.{nexts}

-- none is released before a time
abbrev pub NoneBefore : ℕ → List Run → Type 0
NoneBefore time runs = (i : ℕ) → i < length runs → time ≤ nexts runs i

none_of : (time : ℕ) (run : Run) (runs : List Run) → time ≤ run.next → NoneBefore time runs → NoneBefore time (run ∷ runs)
none_of time run runs here h zero within = here
none_of time run runs here h (suc i) within = h i (omega (arith, within))

-- this one is, and none before it; the first of them has this number
pub record IsEarliest (time number : ℕ) (runs : List Run) (found : ℕ) : Type 0 where
  pub place : ℕ
  pub is : found ≡ place + number
  pub within : place < length runs
  pub early : nexts runs place < time
  pub least : NoneBefore (nexts runs place) runs

pub none_released : (time : ℕ) (found : Option ℕ) (number : ℕ) (runs : List Run) → first_release time found number runs ≡ None → (found ≡ None) × NoneBefore time runs
none_released time found number [] h = (h, λ i within. absurd (omega arith))
none_released time found number (run ∷ runs) h =
    ⊎_elim (λ (e : nat_lt run.next time ≡ true).
    let rest = none_released run.next (Some number) (number + 1) runs (sym (cond-true (nat_lt run.next time) (first_release run.next (Some number) (number + 1) runs) (first_release time found (number + 1) runs) e) ∙ h) in
    absurd (let no = rest.0 in cc))
    (λ (e : nat_lt run.next time ≡ false).
    let rest = none_released time found (number + 1) runs (sym (cond-false (nat_lt run.next time) (first_release run.next (Some number) (number + 1) runs) (first_release time found (number + 1) runs) e) ∙ h) in
    (rest.0, none_of time run runs (ltb-false run.next time e) rest.1)) (cases_Bool (nat_lt run.next time))

-- one behind the first
behind : (time number k : ℕ) (run : Run) (runs : List Run) (least : ℕ) → least ≤ time → least ≤ run.next → IsEarliest least (number + 1) runs k → IsEarliest time number (run ∷ runs) k
behind time number k run runs least low here h =
    let early = h.early in
    record { place = suc h.place; is = omega (arith, h.is); within = omega (arith, h.within); early = omega (arith, early, low); least = none_of (nexts runs h.place) run runs (omega (arith, early, here)) h.least }

pub one_released : (time : ℕ) (found : Option ℕ) (number k : ℕ) (runs : List Run) → first_release time found number runs ≡ Some k → ((found ≡ Some k) × NoneBefore time runs) ⊎ IsEarliest time number runs k
one_released time found number k [] h = inl (h, λ i within. absurd (omega arith))
one_released time found number k (run ∷ runs) h =
    ⊎_elim (λ (e : nat_lt run.next time ≡ true).
    let lower = ltb-true run.next time e in
    ⊎_elim (λ (first : (Some number ≡ Some k) × NoneBefore run.next runs).
    let is = same_Some number k first.0 in
    let it : IsEarliest time number (run ∷ runs) k = record { place = 0; is = omega (arith, is); within = omega arith; early = lower; least = none_of run.next run runs (omega arith) first.1 } in
    inr it)
    (λ (later : IsEarliest run.next (number + 1) runs k). inr (behind time number k run runs run.next (omega (arith, lower)) (omega arith) later))
    (one_released run.next (Some number) (number + 1) k runs (sym (cond-true (nat_lt run.next time) (first_release run.next (Some number) (number + 1) runs) (first_release time found (number + 1) runs) e) ∙ h)))
    (λ (e : nat_lt run.next time ≡ false).
    let higher = ltb-false run.next time e in
    ⊎_elim (λ (none : (found ≡ Some k) × NoneBefore time runs). inl (none.0, none_of time run runs higher none.1))
    (λ (later : IsEarliest time (number + 1) runs k). inr (behind time number k run runs time (omega arith) higher later))
    (one_released time found (number + 1) k runs (sym (cond-false (nat_lt run.next time) (first_release run.next (Some number) (number + 1) runs) (first_release time found (number + 1) runs) e) ∙ h)))
    (cases_Bool (nat_lt run.next time))

-- the one that is released first
pub record IsFirst (ticks : ℕ) (runs : List Run) (number : ℕ) : Type 0 where
  pub within : number < length runs
  pub early : nexts runs number < ticks
  pub least : NoneBefore (nexts runs number) runs

pub first_is : (ticks number : ℕ) (runs : List Run) → first_release ticks None 0 runs ≡ Some number → IsFirst ticks runs number
first_is ticks number runs h =
    ⊎_elim (λ (none : (None ≡ Some number) × NoneBefore ticks runs). absurd (let no = none.0 in cc))
    (λ (it : IsEarliest ticks 0 runs number).
    let is : it.place ≡ number = omega (arith, it.is) in
    let here : IsFirst ticks runs it.place = record { within = it.within; early = it.early; least = it.least } in
    subst (IsFirst ticks runs) is here)
    (one_released ticks None 0 number runs h)

-- its ticks are fewer behind its frame
pub fewer_left : (ticks number : ℕ) (runs : List Run) (new : Run) → number < length runs → nexts runs number < ticks → nexts runs number < new.next → ticks_left ticks (set runs number new) < ticks_left ticks runs
fewer_left ticks number [] new within early on = absurd (omega arith)
fewer_left ticks zero (run ∷ runs) new within early on = omega (arith, early, on)
fewer_left ticks (suc number) (run ∷ runs) new within early on = let less = fewer_left ticks number runs new (omega (arith, within)) early on in omega (arith, less)
