-- Where the entries of a task stand: by frames, and one behind the other.
use Rattle.std.proofs.Common.{◌≡◌, ℕ, zero, suc, ◌+◌, ◌-◌, ◌<◌, List, [], ◌∷◌, ◌++◌, length, take, map, ◌*◌, refl, sym, ap, ◌∙◌, arith, Some}
use Rattle.std.specs.Prelude.{slice_get, get_or}
use native.Mathlib.Decide.{dec_le}
use Rattle.std.proofs.lemmas.List.{take_more, take-append-le}
use Rattle.std.proofs.lemmas.Option.{same_Some, slice_get-get_or, get_or_from_slice_get}
use Rattle.tcel_core.specs.Promises.{Behavior, Promise, event_promise, first_promise, end_promise, frame_promises, promises, first_promises}
use Rattle.tcel_core.proofs.PromiseLaws.{promises-add, promises_enough}
use Rattle.tcel_judge.specs.FirstBreach.{promise_at}

-- what stands in a list stands in a longer one
pub slice_get-front : {A : Type 0} (xs ys : List A) (k : ℕ) (x : A) → slice_get xs k ≡ Some x → slice_get (xs ++ ys) k ≡ Some x
slice_get-front [] ys k x e = absurd cc
slice_get-front (y ∷ xs) ys zero x e = e
slice_get-front (y ∷ xs) ys (suc k) x e = slice_get-front xs ys k x e

-- and what stands in a longer one within a shorter stands in that
pub slice_get-within : {A : Type 0} (xs ys : List A) (k : ℕ) → k < length xs → slice_get (xs ++ ys) k ≡ slice_get xs k
slice_get-within [] ys k h = absurd (omega (arith, h))
slice_get-within (y ∷ xs) ys zero h = refl
slice_get-within (y ∷ xs) ys (suc k) h = slice_get-within xs ys k (omega (arith, h))

pub slice_get-behind : {A : Type 0} (xs ys : List A) (k : ℕ) → slice_get (xs ++ ys) (length xs + k) ≡ slice_get ys k
slice_get-behind [] ys k = let e : 0 + k ≡ k = omega arith in ap (slice_get ys) e
slice_get-behind (x ∷ xs) ys k = let e : suc (length xs) + k ≡ suc (length xs + k) = omega arith in ap (slice_get (x ∷ xs ++ ys)) e ∙ slice_get-behind xs ys k

-- an entry of any number of frames is that of all frames for ever
pub promise_here : (b : Behavior) (m n : ℕ) (p : Promise) → slice_get (promises b m) n ≡ Some p → promise_at b n ≡ Some p
promise_here b m n p e =
    elim (dec_le m (n + 1)) [
      | yes h ↦
          let split : m + (n + 1 - m) ≡ n + 1 = omega (arith, h) in
          let later = promises-add b m (n + 1 - m) in
          ap (λ k. slice_get (promises b k) n) (sym split) ∙ ap (λ l. slice_get l n) later.1 ∙ slice_get-front (promises b m) later.0 n p e
      | no h ↦
          let split : n + 1 + (m - (n + 1)) ≡ m = omega arith in
          let later = promises-add b (n + 1) (m - (n + 1)) in
          let enough = promises_enough b (n + 1) in
          sym (slice_get-within (promises b (n + 1)) later.0 n (omega (arith, enough)))
          ∙ ap (λ l. slice_get l n) (sym later.1) ∙ ap (λ k. slice_get (promises b k) n) split ∙ e
    ]

-- entry k of frame f stands behind the entries of the frames before
pub promise_of_frame : (b : Behavior) (f k : ℕ) (p : Promise) → slice_get (frame_promises b f) k ≡ Some p → promise_at b (length (promises b f) + k) ≡ Some p
promise_of_frame b f k p e = promise_here b (suc f) (length (promises b f) + k) p (slice_get-behind (promises b f) (frame_promises b f) k ∙ e)

-- there is one at each place
pub promise_there : (b : Behavior) (n : ℕ) → (p : Promise) × (promise_at b n ≡ Some p)
promise_there b n =
    let enough = promises_enough b (n + 1) in
    let none : Promise = end_promise 0 [] in
    (get_or (promises b (n + 1)) n none, slice_get-get_or (promises b (n + 1)) n none (omega (arith, enough)))

-- where an entry stands, by frames
pub record Stands (b : Behavior) (place : ℕ) (p : Promise) : Type 0 where
  pub frame : ℕ
  pub number : ℕ
  pub there : slice_get (frame_promises b frame) number ≡ Some p
  pub at : place ≡ length (promises b frame) + number

stands_below : (b : Behavior) (m n : ℕ) (p : Promise) → slice_get (promises b m) n ≡ Some p → Stands b n p
stands_below b zero n p e = absurd cc
stands_below b (suc m) n p e =
    elim (dec_le (length (promises b m)) n) [
      | yes h ↦
          let split : length (promises b m) + (n - length (promises b m)) ≡ n = omega (arith, h) in
          record {
            frame = m;
            number = n - length (promises b m);
            there =
                sym (slice_get-behind (promises b m) (frame_promises b m) (n - length (promises b m)))
                ∙ ap (slice_get (promises b (suc m))) split ∙ e;
            at = sym split;
          }
      | no h ↦ stands_below b m n p (sym (slice_get-within (promises b m) (frame_promises b m) n (omega arith)) ∙ e)
    ]

pub stands : (b : Behavior) (n : ℕ) (p : Promise) → promise_at b n ≡ Some p → Stands b n p
stands b n p e = stands_below b (n + 1) n p e

-- the entries of a frame are of that frame
pub of_frame : (b : Behavior) (f k : ℕ) (p : Promise) → slice_get (frame_promises b f) k ≡ Some p → p.frame ≡ f
of_frame b f k p e = go (b.frames f).events k e
  where
    go : (events : List _) (k : ℕ)
        → slice_get (map (event_promise f (f * b.period)) events ++ (first_promise f (f * b.period) b.deadline ∷ end_promise f (b.frames f).state ∷ [])) k ≡ Some p → p.frame ≡ f
    go [] zero h = ap (λ q. q.frame) (sym (same_Some (first_promise f (f * b.period) b.deadline) p h))
    go [] (suc zero) h = ap (λ q. q.frame) (sym (same_Some (end_promise f (b.frames f).state) p h))
    go [] (suc (suc k)) h = absurd cc
    go (event ∷ events) zero h = ap (λ q. q.frame) (sym (same_Some (event_promise f (f * b.period) event) p h))
    go (event ∷ events) (suc k) h = go events k h

-- one entry more
pub first_promises-push : (b : Behavior) (n : ℕ) (p : Promise) → promise_at b n ≡ Some p → first_promises b (suc n) ≡ first_promises b n ++ p ∷ []
first_promises-push b n p e =
    let enough = promises_enough b n in
    let long = promises_enough b (suc n) in
    let more : n + 1 ≡ suc n = omega arith in
    ap (λ k. take k (promises b (suc n))) (sym more)
    ∙ take_more (promises b (suc n)) n p (omega (arith, long))
    ∙ ap (λ l. l ++ get_or (promises b (suc n)) n p ∷ []) (take-append-le n (promises b n) (frame_promises b n) enough)
    ∙ ap (λ q. first_promises b n ++ q ∷ []) (get_or_from_slice_get (promises b (suc n)) n p p (ap (λ k. slice_get (promises b k) n) (sym more) ∙ e))
