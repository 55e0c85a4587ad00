-- Where the entries of a frame stand among all entries of a task.
use Rattle.std.proofs.Common.{◌≡◌, ℕ, ◌+◌, ◌*◌, List, [], ◌∷◌, ◌++◌, Some, None, length, map, refl, sym, ap, ◌∙◌, arith}
use Rattle.std.specs.Prelude.{slice_get, option_map}
use Rattle.std.proofs.lemmas.List.{length-map}
use Rattle.std.proofs.lemmas.Option.{slice_get-map}
use Rattle.tcel_core.specs.declared.event.Event.{Event}
use Rattle.tcel_core.specs.Promises.{Behavior, Promise, end_promise, event_promise, first_promise, promises}
use Rattle.tcel_judge.specs.declared.course.ComingWhat.TheVariants as coming
use Rattle.tcel_judge.specs.Courses.{promised}
use Rattle.tcel_judge.specs.FirstBreach.{promise_at}
use Rattle.tcel_judge.proofs.PromisePlaces.{promise_of_frame, slice_get-behind, slice_get-front}

module _ (b : Behavior) (f : ℕ) where
  abbrev events : List Event
  events = (b.frames f).events

  abbrev moved : List Promise
  moved = map (event_promise f (f * b.period)) events

  abbrev closing : List Promise
  closing = first_promise f (f * b.period) b.deadline ∷ end_promise f (b.frames f).state ∷ []

  event_there : (k : ℕ) (e : Event) → slice_get events k ≡ Some e → promise_at b (length (promises b f) + k) ≡ Some (event_promise f (f * b.period) e)
  event_there k e is =
      let p = event_promise f (f * b.period) in
      let own = slice_get-map p events k ∙ ap (option_map p) is in
      promise_of_frame b f k (p e) (slice_get-front moved closing k (p e) own)

  -- the same where this is the frame's release
  pub event_made : (k release : ℕ) (e : Event) → release ≡ f * b.period → slice_get events k ≡ Some e → promise_at b (length (promises b f) + k) ≡ Some (event_promise f release e)
  event_made k release e at is = event_there k e is ∙ ap (λ n. Some (event_promise f n e)) (sym at)

  closing_there : (k : ℕ) (p : Promise) → slice_get closing k ≡ Some p → promise_at b (length (promises b f) + (length events + k)) ≡ Some p
  closing_there k p is =
      let long = length-map events (event_promise f (f * b.period)) in
      promise_of_frame b f (length events + k) p (ap (λ n. slice_get (moved ++ closing) (n + k)) (sym long) ∙ slice_get-behind moved closing k ∙ is)

  pub mark_there : (k due : ℕ) → k ≡ length events → due ≡ f * b.period + b.deadline
      → promise_at b (length (promises b f) + k) ≡ Some (promised b (record { frame = f; number = k; what = coming.First; earliest = 0; latest = Some due }))
  mark_there k due at is =
      let place : k ≡ length events + 0 = omega (arith, at) in
      ap (λ n. promise_at b (length (promises b f) + n)) place ∙ closing_there 0 (first_promise f (f * b.period) b.deadline) refl
      ∙ ap (λ n. Some (promised b (record { frame = f; number = k; what = coming.First; earliest = 0; latest = Some n }))) (sym is)

  pub end_there : (k : ℕ) → k ≡ length events + 1
      → promise_at b (length (promises b f) + k) ≡ Some (promised b (record { frame = f; number = k; what = coming.End; earliest = 0; latest = None }))
  end_there k at = ap (λ n. promise_at b (length (promises b f) + n)) at ∙ closing_there 1 (end_promise f (b.frames f).state) refl
