-- Reading one thing after the other, as a loop does.
use Rattle.std.proofs.Common.{◌≡◌, ℕ, suc, ◌-◌, ◌+◌, ◌≤◌, ◌<◌, List, [], ◌∷◌, ◌++◌, Result, Ok, Err, refl, sym, ap, ◌∙◌, append_assoc, arith}
use Rattle.std.proofs.lemmas.List.{append-nil}
use Rattle.tcel_image.specs.declared.fault.Fault.{Fault}
use Rattle.tcel_image.specs.declared.fault.ReadError.{ReadError}
use Rattle.tcel_image.specs.declared.fault.ReadError.TheVariants as errors
use Rattle.tcel_image.specs.declared.image.ImageState.{ImageState}
use Rattle.tcel_image.specs.Reading.{Reader, after, done, Fails, many_at, state_at, states_from}

-- what was read before, and what is still read
abbrev pub with_front : {A : Type 0} → List A → Result (List A × List ℕ) Fault → Result (List A × List ℕ) Fault
with_front front read = after read (λ others. done (front ++ others))

pub regroup : {A : Type 0} (front : List A) (x : A) (read : Result (List A × List ℕ) Fault) → with_front front (after read (λ others. done (x ∷ others))) ≡ with_front (front ++ x ∷ []) read
regroup front x (Ok p) = ap (λ l. Ok (l, p.1)) (simp append_assoc)
regroup front x (Err f) = refl

module _ {A : Type 0} (one : Reader A) (front : List A) (count i : ℕ) (bytes : List ℕ) (total : Result (List A × List ℕ) Fault) where
  pub goes_on : (x : A) (after_it : List ℕ) → i < count → one bytes ≡ Ok (x, after_it) → with_front front (many_at one (count - i) bytes) ≡ total
      → with_front (front ++ x ∷ []) (many_at one (count - (i + 1)) after_it) ≡ total
  unfolding many_at
  goes_on x after_it lt h so_far =
      let k : count - i ≡ suc (count - (i + 1)) = omega arith in
      let now : with_front front (many_at one (count - i) bytes) ≡ with_front (front ++ x ∷ []) (many_at one (count - (i + 1)) after_it) = rw (k, h) (regroup front x (many_at one (count - (i + 1)) after_it)) in
      sym now ∙ so_far

  pub ends : (e : ReadError) → i < count → Fails e (one bytes) → with_front front (many_at one (count - i) bytes) ≡ total → Fails e total
  unfolding many_at
  ends errors.Memory lt h so_far = tt
  ends (errors.Fault f) lt h so_far =
      let k : count - i ≡ suc (count - (i + 1)) = omega arith in
      let now : with_front front (many_at one (count - i) bytes) ≡ Err f = rw (k, h) refl in
      sym so_far ∙ now

  pub is_done : count ≤ i → with_front front (many_at one (count - i) bytes) ≡ total → total ≡ Ok (front, bytes)
  unfolding many_at
  is_done le so_far =
      let k : count - i ≡ 0 = omega arith in
      let now : with_front front (many_at one (count - i) bytes) ≡ Ok (front, bytes) = rw k (ap (λ l. Ok (l, bytes)) (append-nil front)) in
      sym so_far ∙ now

-- the same for states, each behind the words of those before it
module _ (front : List ImageState) (count i used : ℕ) (bytes : List ℕ) (total : Result (List ImageState × List ℕ) Fault) where
  pub goes_on_state : (x : ImageState) (after_it : List ℕ) → i < count → state_at used bytes ≡ Ok (x, after_it) → with_front front (states_from used (count - i) bytes) ≡ total
      → with_front (front ++ x ∷ []) (states_from (used + x.words) (count - (i + 1)) after_it) ≡ total
  unfolding states_from
  goes_on_state x after_it lt h so_far =
      let k : count - i ≡ suc (count - (i + 1)) = omega arith in
      let now : with_front front (states_from used (count - i) bytes) ≡ with_front (front ++ x ∷ []) (states_from (used + x.words) (count - (i + 1)) after_it) =
      rw (k, h) (regroup front x (states_from (used + x.words) (count - (i + 1)) after_it)) in
      sym now ∙ so_far

  pub ends_state : (e : ReadError) → i < count → Fails e (state_at used bytes) → with_front front (states_from used (count - i) bytes) ≡ total → Fails e total
  unfolding states_from
  ends_state errors.Memory lt h so_far = tt
  ends_state (errors.Fault f) lt h so_far =
      let k : count - i ≡ suc (count - (i + 1)) = omega arith in
      let now : with_front front (states_from used (count - i) bytes) ≡ Err f = rw (k, h) refl in
      sym so_far ∙ now

  pub done_states : count ≤ i → with_front front (states_from used (count - i) bytes) ≡ total → total ≡ Ok (front, bytes)
  unfolding states_from
  done_states le so_far =
      let k : count - i ≡ 0 = omega arith in
      let now : with_front front (states_from used (count - i) bytes) ≡ Ok (front, bytes) = rw k (ap (λ l. Ok (l, bytes)) (append-nil front)) in
      sym so_far ∙ now
