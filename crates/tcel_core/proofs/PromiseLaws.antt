-- The entries that a task is to make, frame after frame.
use Rattle.std.proofs.Common.{◌≡◌, ℕ, zero, suc, ◌+◌, ◌-◌, ◌≤◌, ◌*◌, List, [], ◌∷◌, ◌++◌, length, take, map, sym, ap, ◌∙◌, arith, append_assoc, zero-le, length-append, add-zero, append-nil}
use native.Mathlib.Decide.{dec_le}
use Rattle.std.proofs.Math.Nat.{add-suc}
use Rattle.std.proofs.Math.Seq.{take-append_seam}
use Rattle.std.proofs.lemmas.List.{length-map, take-append-le}
use Rattle.tcel_core.specs.Promises.{Behavior, Promise, event_promise, first_promise, end_promise, frame_promises, promises, first_promises}

-- a frame has its events and two entries more
pub length-frame_promises : (b : Behavior) (f : ℕ) → length (frame_promises b f) ≡ length (b.frames f).events + 2
length-frame_promises b f =
    length-append (map (event_promise f (f * b.period)) (b.frames f).events)
    (first_promise f (f * b.period) b.deadline ∷ end_promise f (b.frames f).state ∷ [])
    ∙ ap (λ n. n + 2) (length-map (b.frames f).events (event_promise f (f * b.period)))

-- n frames have n entries or more
pub promises_enough : (b : Behavior) (n : ℕ) → n ≤ length (promises b n)
promises_enough b zero = zero-le
promises_enough b (suc n) =
    omega (arith, promises_enough b n, length-append (promises b n) (frame_promises b n), length-frame_promises b n)

-- later frames come behind
pub promises-add : (b : Behavior) (n more : ℕ) → (rest : List Promise) × (promises b (n + more) ≡ promises b n ++ rest)
promises-add b n zero = ([], ap (promises b) (add-zero n) ∙ sym (append-nil (promises b n)))
promises-add b n (suc more) =
    let shorter = promises-add b n more in
    let last = frame_promises b (n + more) in (
      shorter.0 ++ last,
      ap (promises b) (add-suc n more) ∙ ap (λ l. l ++ last) shorter.1 ∙ append_assoc (promises b n) shorter.0 last,
    )

prefix_below : (b : Behavior) (more : ℕ) (ps rest : List Promise) → promises b (length ps + more) ≡ ps ++ rest → first_promises b (length ps) ≡ ps
prefix_below b more ps rest e =
    let k = length ps in
    let later = promises-add b k more in
    sym (take-append-le k (promises b k) later.0 (promises_enough b k)) ∙ ap (take k) (sym later.1 ∙ e) ∙ take-append_seam ps rest

prefix_above : (b : Behavior) (n more : ℕ) (ps rest : List Promise) → promises b n ≡ ps ++ rest → length ps ≡ n + more → first_promises b (length ps) ≡ ps
prefix_above b n more ps rest e long =
    let later = promises-add b n more in
    ap (λ k. take (length ps) (promises b k)) long
    ∙ ap (take (length ps)) (later.1 ∙ ap (λ l. l ++ later.0) e ∙ append_assoc ps rest later.0)
    ∙ take-append_seam ps (rest ++ later.0)

-- what begins the entries of some frames begins those of all
pub first_promises-prefix : (b : Behavior) (n : ℕ) (ps rest : List Promise) → promises b n ≡ ps ++ rest → first_promises b (length ps) ≡ ps
first_promises-prefix b n ps rest e =
    elim (dec_le (length ps) n) [
      | yes h ↦
          let split : n ≡ length ps + (n - length ps) = omega arith in
          prefix_below b (n - length ps) ps rest (ap (promises b) (sym split) ∙ e)
      | no h ↦ let split : length ps ≡ n + (length ps - n) = omega arith in prefix_above b n (length ps - n) ps rest e split
    ]
