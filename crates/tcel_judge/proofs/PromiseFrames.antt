-- The frames of the entries that a task is to make, one behind the other.
use Rattle.std.proofs.Common.{◌≡◌, ℕ, zero, suc, ◌+◌, ◌-◌, ◌*◌, ◌<◌, ◌≤◌, List, [], ◌∷◌, ◌++◌, length, map, sym, ap, ◌∙◌, subst, arith, length-append, Some, inl, inr}
use Rattle.std.specs.Prelude.{IfSome, slice_get}
use Rattle.std.proofs.lemmas.Bool.{cases_lt}
use Rattle.std.proofs.lemmas.Option.{same_Some, slice_get_within}
use Rattle.tcel_core.specs.declared.event.Event.{Event}
use Rattle.tcel_core.specs.Promises.{Behavior, Promise, event_promise, first_promise, end_promise, frame_promises, promises}
use Rattle.tcel_core.proofs.PromiseLaws.{promises-add}
use Rattle.tcel_judge.specs.FirstBreach.{promise_at}
use Rattle.tcel_judge.proofs.PromisePlaces.{stands, of_frame}

-- the window of an entry doesn't close before this time
abbrev IsOpenTo : ℕ → Promise → Type 0
IsOpenTo release p = IfSome p.latest (λ latest. release ≤ latest)

open_events : (f release deadline : ℕ) (events : List Event) (state : List _) (k : ℕ) (p : Promise) →
    slice_get (map (event_promise f release) events ++ (first_promise f release deadline ∷ end_promise f state ∷ [])) k ≡ Some p → IsOpenTo release p
open_events f release deadline [] state zero p e = subst (IsOpenTo release) (same_Some (first_promise f release deadline) p e) (omega arith)
open_events f release deadline [] state (suc zero) p e = subst (IsOpenTo release) (same_Some (end_promise f state) p e) tt
open_events f release deadline [] state (suc (suc k)) p e = absurd cc
open_events f release deadline (x ∷ events) state zero p e = subst (IsOpenTo release) (same_Some (event_promise f release x) p e) (omega arith)
open_events f release deadline (x ∷ events) state (suc k) p e = open_events f release deadline events state k p e

-- the entry of this number is one of its frame, and its window doesn't close before the frame's release
pub record IsOwn (b : Behavior) (n : ℕ) (p : Promise) : Type 0 where
  pub behind : length (promises b p.frame) ≤ n
  pub before : n < length (promises b (p.frame + 1))
  pub opens : IfSome p.latest (λ latest. p.frame * b.period ≤ latest)

pub is_own : (b : Behavior) (n : ℕ) (p : Promise) → promise_at b n ≡ Some p → IsOwn b n p
is_own b n p e =
    let s = stands b n p e in
    let f = s.frame in
    let own = of_frame b f s.number p s.there in
    let within = slice_get_within (frame_promises b f) s.number p s.there in
    let long = length-append (promises b f) (frame_promises b f) in
    let at = s.at in
    let next : suc f ≡ p.frame + 1 = omega (arith, own) in
    let so_far = ap (λ m. length (promises b m)) own in
    let by_then = ap (λ m. length (promises b m)) next in
    record {
      behind = omega arith;
      before = omega arith;
      opens =
          subst (λ m. IfSome p.latest (λ latest. m * b.period ≤ latest)) (sym own)
          (open_events f (f * b.period) b.deadline (b.frames f).events (b.frames f).state s.number p s.there);
    }

-- the entries of fewer frames are no more
pub fewer_frames : (b : Behavior) (f g : ℕ) → f ≤ g → length (promises b f) ≤ length (promises b g)
fewer_frames b f g h =
    let e : f + (g - f) ≡ g = omega arith in
    let later = promises-add b f (g - f) in
    let long = ap length later.1 ∙ length-append (promises b f) later.0 in
    let same = ap (λ n. length (promises b n)) e in
    omega arith

-- later entries are of no earlier frames
pub frames_rise : (b : Behavior) (n k : ℕ) (p q : Promise) → n ≤ k → promise_at b n ≡ Some p → promise_at b k ≡ Some q → p.frame ≤ q.frame
frames_rise b n k p q h at also =
    elim (cases_lt q.frame p.frame) [
      | inl less ↦
          let here = is_own b n p at in
          let there = is_own b k q also in
          let most = fewer_frames b (q.frame + 1) p.frame (omega arith) in
          absurd (omega (arith, here.behind, there.before))
      | inr most ↦ most
    ]
