-- Which entries can be due: none of a frame that is released after the last tick.
use Rattle.std.proofs.Common.{◌≡◌, ℕ, ◌+◌, ◌*◌, ◌/◌, ◌<◌, ◌≤◌, false, length, refl, sym, ap, ◌∙◌, subst, arith, Option, None, Some, inl, inr}
use Rattle.std.specs.Prelude.{IfSome, nat_le, ◌&&◌}
use Rattle.std.specs.Option.{option_map_or}
use Rattle.std.proofs.Math.Nat.{mul-le-mul_left, div-lt_iff_lt-mul}
use Rattle.std.proofs.lemmas.Bool.{cases_lt, and_right, or_from, lt-leb}
use Rattle.std.proofs.lemmas.Option.{same_Some}
use Rattle.tcel_core.specs.Promises.{Behavior, Promise, promises}
use Rattle.tcel_judge.specs.FirstBreach.{promise_at, is_end, is_due, MissesNone}
use Rattle.tcel_judge.proofs.PromiseFrames.{is_own, fewer_frames, frames_rise}

-- ---- one entry

-- no window of it has closed
open_window : (ticks release : ℕ) (o : Option ℕ) → ticks < release → IfSome o (λ latest. release ≤ latest) → option_map_or (λ latest. nat_le latest ticks) o false ≡ false
open_window ticks release None less h = refl
open_window ticks release (Some latest) less h = lt-leb latest ticks (omega arith)

module _ (ticks total count : ℕ) (b : Behavior) (some : 0 < total) (positive : 0 < b.period) (within : count ≤ total * (ticks / b.period + 1)) where
  -- nothing of a frame is due that is released after the last tick
  pub not_due : (n : ℕ) (p : Promise) → promise_at b n ≡ Some p → ticks / b.period < p.frame → is_due ticks total count p ≡ false
  not_due n p at late =
      let own = is_own b n p at in
      let after : ticks < p.frame * b.period = (div-lt_iff_lt-mul {k = b.period} {x = ticks} {y = p.frame} positive).0 late in
      let more : total * (ticks / b.period + 1) ≤ total * p.frame = mul-le-mul_left total (omega arith) in
      let less : count < (p.frame + 1) * total = omega arith in
      or_from (option_map_or (λ latest. nat_le latest ticks) p.latest false) (is_end p.what && nat_le ((p.frame + 1) * total) count)
      (open_window ticks (p.frame * b.period) p.latest after own.opens)
      (and_right (is_end p.what) (nat_le ((p.frame + 1) * total) count) (lt-leb ((p.frame + 1) * total) count less))

  -- so where one of a later frame comes next, no entry from there on is due
  pub none_behind : (place : ℕ) (p : Promise) → promise_at b place ≡ Some p → ticks / b.period < p.frame → MissesNone ticks total count b place
  none_behind place p at late k q far also = not_due k q also (let rise = frames_rise b place k p q far at also in omega arith)

  -- an entry that can be due stands among those of the frames released by then
  pub soon_within : (n : ℕ) (p : Promise) → promise_at b n ≡ Some p → p.frame ≤ ticks / b.period → n < length (promises b (ticks / b.period + 1))
  soon_within n p at soon =
      let before = (is_own b n p at).before in
      let most = fewer_frames b (p.frame + 1) (ticks / b.period + 1) (omega arith) in
      omega arith

-- ---- a search from place to place

module _ (ticks total count : ℕ) (b : Behavior) (from : ℕ) where
  -- what was passed of the entries is not due
  abbrev pub NoneSoFar : ℕ → Type 0
  NoneSoFar place = (k : ℕ) (q : Promise) → from ≤ k → k < place → promise_at b k ≡ Some q → is_due ticks total count q ≡ false

  pub none_yet : NoneSoFar from
  none_yet k q far near at = absurd (omega (arith, far, near))

  pub one_more : (place : ℕ) (p : Promise) → NoneSoFar place → promise_at b place ≡ Some p → is_due ticks total count p ≡ false → NoneSoFar (place + 1)
  one_more place p passed at off k q far near also =
      elim (cases_lt k place) [
        | inl less ↦ passed k q far less also
        | inr most ↦
            let same : k ≡ place = omega (arith, near, most) in
            let entry : p ≡ q = same_Some p q (sym at ∙ ap (promise_at b) (sym same) ∙ also) in
            subst (λ r. is_due ticks total count r ≡ false) entry off
      ]

  pub nothing_due : (place : ℕ) → NoneSoFar place → MissesNone ticks total count b place → MissesNone ticks total count b from
  nothing_due place passed rest k q far at =
      elim (cases_lt k place) [
        | inl less ↦ passed k q far less at
        | inr most ↦ rest k q most at
      ]
