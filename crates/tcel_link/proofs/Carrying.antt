-- The sends of a producer's promises, and those that its entries show.
use Rattle.std.proofs.Common.{◌≡◌, ℕ, zero, suc, ◌+◌, ◌-◌, ◌*◌, ◌==◌, ◌<◌, ◌≤◌, Bool, true, false, cond, ◌&&◌, nat_le, ℤ, List, [], ◌∷◌, ◌++◌, length, map, take, Some, refl, sym, ap, ◌∙◌, subst, ⊎_elim, arith}
use Rattle.std.specs.Prelude.{IfSome, Option, filter, slice_get}
use Rattle.std.specs.List.{AllByRecursion, AllZip}
use Rattle.std.proofs.lemmas.Bool.{cases_Bool, cond-false, cond-true}
use Rattle.std.proofs.lemmas.Bool.Decides.{nat_tests}
use Rattle.std.proofs.lemmas.List.{append-nil, map-append, take-append-le}
use Rattle.std.proofs.lemmas.List.Elements.{filter-append}
use Rattle.tcel_core.specs.declared.event.Event.{Event}
use Rattle.tcel_core.specs.declared.event.EventKind.{EventKind}
use Rattle.tcel_core.specs.declared.event.EventKind.TheVariants.{Receive, Send}
use Rattle.tcel_core.specs.Frames.{Frame}
use Rattle.tcel_core.specs.Meets.{IsInTime, Keeps, promised, told}
use Rattle.tcel_core.specs.Promises.{Behavior, Promise, end_promise, event_promise, first_promise, first_promises, frame_promises, promises, what_of}
use Rattle.tcel_core.proofs.PromiseLaws.{promises-add, promises_enough}
use Rattle.tcel_link.specs.Linked.{is_send, sent}
use Rattle.tcel_link.specs.Traces.{sends_to, value_of}
use Rattle.tcel_link.proofs.Alike.{all_both, all_first, doing, rest_of, take_joined}
use Rattle.tcel_num.specs.Entry.{Entry, What}

module _ (period deadline output time : ℕ) where
  -- the deadline of a frame has come
  abbrev pub has_come : ℕ → Bool
  has_come f = nat_le (f * period + deadline) time

  -- what is told is such a send
  abbrev pub is_sent : ℕ × What → Bool
  is_sent t = sends_to output t.1 && has_come t.0

  abbrev pub sent_in : List (ℕ × What) → List ℤ
  sent_in ts = map (λ (t : ℕ × What). value_of t.1) (filter is_sent ts)

  sent_in-append : (a b : List (ℕ × What)) → sent_in (a ++ b) ≡ sent_in a ++ sent_in b
  sent_in-append a b =
      ap (map (λ (t : ℕ × What). value_of t.1)) (filter-append is_sent a b) ∙ map-append (λ (t : ℕ × What). value_of t.1) (filter is_sent a) (filter is_sent b)

  -- entries, by what they tell
  pub as_told : (es : List Entry) → map (λ (e : Entry). value_of e.what) (filter (λ (e : Entry). is_sent (told e)) es) ≡ sent_in (map told es)
  as_told [] = refl
  as_told (e ∷ es) = by_test (is_sent (told e)) ∙ ap (λ vs. cond (is_sent (told e)) (value_of e.what ∷ vs) vs) (as_told es) ∙ sym (by_other (is_sent (told e)))
    where
      rest : List Entry
      rest = filter (λ (e : Entry). is_sent (told e)) es

      by_test : (b : Bool) → map (λ (e : Entry). value_of e.what) (cond b (e ∷ rest) rest) ≡ (let vs = map (λ (e : Entry). value_of e.what) rest in cond b (value_of e.what ∷ vs) vs)
      by_test true = refl
      by_test false = refl

      by_other : (b : Bool) → map (λ (t : ℕ × What). value_of t.1) (cond b (told e ∷ filter is_sent (map told es)) (filter is_sent (map told es)))
          ≡ (let vs = sent_in (map told es) in cond b (value_of e.what ∷ vs) vs)
      by_other true = refl
      by_other false = refl

  -- ---- a frame

  abbrev frame_told : ℕ → List Event → List (ℕ × What)
  frame_told f events = map promised (map (event_promise f (f * period)) events)

  events_come : (f : ℕ) (events : List Event) → has_come f ≡ true → sent_in (frame_told f events) ≡ sent output events
  events_come f [] come = refl
  events_come f (e ∷ events) come = by_kind e.kind ∙ ap (λ vs. cond (is_send e.kind && e.port == output) (e.value ∷ vs) vs) (events_come f events come) ∙ sym (by_test (is_send e.kind && e.port == output))
    where
      rest : List (ℕ × What)
      rest = filter is_sent (frame_told f events)

      by_port : (b : Bool) → map (λ (t : ℕ × What). value_of t.1) (cond (b && has_come f) ((f, what_of Send e.port e.value) ∷ rest) rest)
          ≡ (let vs = map (λ (t : ℕ × What). value_of t.1) rest in cond b (e.value ∷ vs) vs)
      by_port true = ap (λ b. map (λ (t : ℕ × What). value_of t.1) (cond b ((f, what_of Send e.port e.value) ∷ rest) rest)) come
      by_port false = refl

      by_kind : (kind : EventKind) → map (λ (t : ℕ × What). value_of t.1) (cond (is_sent (f, what_of kind e.port e.value)) ((f, what_of kind e.port e.value) ∷ rest) rest)
          ≡ (let vs = map (λ (t : ℕ × What). value_of t.1) rest in cond (is_send kind && e.port == output) (e.value ∷ vs) vs)
      by_kind Send = by_port (e.port == output)
      by_kind Receive = refl

      by_test : (b : Bool) → map (λ (e : Event). e.value) (cond b (e ∷ filter (λ (e : Event). is_send e.kind && e.port == output) events) (filter (λ (e : Event). is_send e.kind && e.port == output) events))
          ≡ (let vs = sent output events in cond b (e.value ∷ vs) vs)
      by_test true = refl
      by_test false = refl

  -- what a frame whose deadline hasn't come tells
  abbrev IsOf : ℕ → ℕ × What → Type 0
  IsOf f t = t.0 ≡ f

  none_come : (f : ℕ) (ts : List (ℕ × What)) → AllByRecursion (IsOf f) ts → has_come f ≡ false → sent_in ts ≡ []
  none_come f [] h late = refl
  none_come f (t ∷ ts) h late =
      let one : has_come t.0 ≡ false = ap has_come h.0 ∙ late in
      ap (λ b. map (λ (t : ℕ × What). value_of t.1) (cond b (t ∷ filter is_sent ts) (filter is_sent ts))) (by_false (sends_to output t.1) (has_come t.0) one) ∙ none_come f ts h.1 late
    where
      by_false : (a b : Bool) → b ≡ false → (a && b) ≡ false
      by_false true b e = e
      by_false false b e = refl

  of_frame : (f : ℕ) (ps : List Promise) → AllByRecursion (λ (p : Promise). p.frame ≡ f) ps → AllByRecursion (IsOf f) (map promised ps)
  of_frame f [] h = tt
  of_frame f (p ∷ ps) h = (h.0, of_frame f ps h.1)

  is_frame : (f : ℕ) (events : List Event) (state : List ℤ)
      → AllByRecursion (λ (p : Promise). p.frame ≡ f) (map (event_promise f (f * period)) events ++ (first_promise f (f * period) deadline ∷ end_promise f state ∷ []))
  is_frame f [] state = (refl, (refl, tt))
  is_frame f (e ∷ events) state = (refl, is_frame f events state)

  one_more : (t : ℕ × What) (a b : List (ℕ × What)) → sent_in a ≡ sent_in b → sent_in (t ∷ a) ≡ sent_in (t ∷ b)
  one_more t a b h = sent_in-append (t ∷ []) a ∙ ap (λ vs. sent_in (t ∷ []) ++ vs) h ∙ sym (sent_in-append (t ∷ []) b)

  -- the entries of a frame up to its first part's end send all that it sends
  events_taken : (k f : ℕ) (events : List Event) (state : List ℤ) → length events < k
      → sent_in (map promised (take k (map (event_promise f (f * period)) events ++ (first_promise f (f * period) deadline ∷ end_promise f state ∷ []))))
      ≡ sent_in (map promised (map (event_promise f (f * period)) events ++ (first_promise f (f * period) deadline ∷ end_promise f state ∷ [])))
  events_taken zero f events state h = absurd (omega (arith, h))
  events_taken (suc zero) f [] state h = refl
  events_taken (suc (suc zero)) f [] state h = refl
  events_taken (suc (suc (suc k))) f [] state h = refl
  events_taken (suc k) f (e ∷ events) state h =
      let two = first_promise f (f * period) deadline ∷ end_promise f state ∷ [] in
      one_more (promised (event_promise f (f * period) e)) (map promised (take k (map (event_promise f (f * period)) events ++ two)))
      (map promised (map (event_promise f (f * period)) events ++ two)) (events_taken k f events state (omega (arith, h)))

  module _ (F : ℕ → Frame) where
    abbrev own : Behavior
    own = doing period deadline F

    abbrev sent_of : List Promise → List ℤ
    sent_of ps = sent_in (map promised ps)

    sent_of-append : (a b : List Promise) → sent_of (a ++ b) ≡ sent_of a ++ sent_of b
    sent_of-append a b = ap sent_in (map-append promised a b) ∙ sent_in-append (map promised a) (map promised b)

    frame_late : (f k : ℕ) → has_come f ≡ false → sent_of (take k (frame_promises own f)) ≡ []
    frame_late f k late =
        let ps = frame_promises own f in
        none_come f (map promised (take k ps)) (of_frame f (take k ps) (all_first (λ (p : Promise). p.frame ≡ f) k ps (is_frame f (F f).events (F f).state))) late

    frame_late_whole : (f : ℕ) → has_come f ≡ false → sent_of (frame_promises own f) ≡ []
    frame_late_whole f late = let ps = frame_promises own f in none_come f (map promised ps) (of_frame f ps (is_frame f (F f).events (F f).state)) late

    frame_come : (f : ℕ) → has_come f ≡ true → sent_of (frame_promises own f) ≡ sent output (F f).events
    frame_come f come =
        let two = first_promise f (f * period) deadline ∷ end_promise f (F f).state ∷ [] in
        sent_of-append (map (event_promise f (f * period)) (F f).events) two ∙ append-nil (sent_of (map (event_promise f (f * period)) (F f).events)) ∙ events_come f (F f).events come

    frame_taken : (k f : ℕ) → (has_come f ≡ true → length (F f).events < k) → sent_of (take k (frame_promises own f)) ≡ sent_of (frame_promises own f)
    frame_taken k f long =
        ⊎_elim (λ (come : has_come f ≡ true). events_taken k f (F f).events (F f).state (long come))
        (λ (late : has_come f ≡ false). frame_late f k late ∙ sym (frame_late_whole f late)) (cases_Bool (has_come f))

    -- frame by frame
    pub frames_sent : (f : ℕ) → sent_of (promises own (suc f)) ≡ sent_of (promises own f) ++ cond (has_come f) (sent output (F f).events) []
    frames_sent f =
        sent_of-append (promises own f) (frame_promises own f)
        ∙ ap (λ vs. sent_of (promises own f) ++ vs)
        (⊎_elim (λ (come : has_come f ≡ true). frame_come f come ∙ sym (cond-true (has_come f) (sent output (F f).events) [] come))
        (λ (late : has_come f ≡ false). frame_late_whole f late ∙ sym (cond-false (has_come f) (sent output (F f).events) [] late)) (cases_Bool (has_come f)))

    all_taken : (n m : ℕ) → ((f : ℕ) → has_come f ≡ true → length (promises own f) + length (F f).events < n)
        → sent_of (take n (promises own m)) ≡ sent_of (promises own m)
    all_taken zero zero long = refl
    all_taken (suc n) zero long = refl
    all_taken n (suc m) long =
        let before = promises own m in
        let last = frame_promises own m in
        ap sent_of (take_joined n before last) ∙ sent_of-append (take n before) (take (n - length before) last)
        ∙ ap (λ vs. vs ++ sent_of (take (n - length before) last)) (all_taken n m long)
        ∙ ap (λ vs. sent_of before ++ vs) (frame_taken (n - length before) m (λ come. let here = long m come in omega (arith, here)))
        ∙ sym (sent_of-append before last)

    behind_events : (f : ℕ) (events : List Event) (state : List ℤ) (p : Promise)
        → slice_get (map (event_promise f (f * period)) events ++ (p ∷ end_promise f state ∷ [])) (length events) ≡ Some p
    behind_events f [] state p = refl
    behind_events f (e ∷ events) state p = behind_events f events state p

    -- the sends that a producer's entries show, in frames whose deadline has come
    pub kept_sent : (ticks more : ℕ) (es : List Entry) → time ≤ ticks → Keeps own ticks es → sent_in (map told es) ≡ sent_of (promises own (length es + more))
    kept_sent ticks more es early kept =
        let n = length es in
        let later = promises-add own n more in
        let whole : (f : ℕ) → has_come f ≡ true → length (promises own f) + length (F f).events < n =
        λ f come.
        let by : f * period + deadline ≤ time = grind (arith, nat_tests) in
        kept.complete f (length (F f).events) (first_promise f (f * period) deadline) (f * period + deadline)
        (behind_events f (F f).events (F f).state (first_promise f (f * period) deadline)) refl (omega (arith, by, early)) in
        ap sent_in kept.follows
        ∙ ap sent_of (sym (take-append-le n (promises own n) later.0 (promises_enough own n)) ∙ ap (take n) (sym later.1))
        ∙ all_taken n (n + more) whole

    -- ---- times

    abbrev IsSoon : Promise → Type 0
    IsSoon p = sends_to output p.what ≡ true → (t : ℕ) × (p.latest ≡ Some t) × (t ≤ p.frame * period + deadline)

    -- a send stands by the deadline of its frame
    abbrev pub IsByDeadline : Entry → Type 0
    IsByDeadline e = sends_to output e.what ≡ true → e.time ≤ e.frame * period + deadline

    module _ (soon : (f : ℕ) → AllByRecursion (λ (e : Event). e.latest ≤ deadline) (F f).events) where
      frame_soon : (f : ℕ) (events : List Event) (state : List ℤ) → AllByRecursion (λ (e : Event). e.latest ≤ deadline) events
          → AllByRecursion IsSoon (map (event_promise f (f * period)) events ++ (first_promise f (f * period) deadline ∷ end_promise f state ∷ []))
      frame_soon f [] state h = (λ s. absurd cc, (λ s. absurd cc, tt))
      frame_soon f (e ∷ events) state h = (λ s. (f * period + e.latest, refl, (let l = h.0 in omega (arith, l))), frame_soon f events state h.1)

      all_soon : (m : ℕ) → AllByRecursion IsSoon (promises own m)
      all_soon zero = tt
      all_soon (suc m) = all_both IsSoon (promises own m) (frame_promises own m) (all_soon m) (frame_soon m (F m).events (F m).state (soon m))

      zipped : (es : List Entry) (ps : List Promise) → AllZip IsInTime es ps → map told es ≡ map promised ps → AllByRecursion IsSoon ps → AllByRecursion IsByDeadline es
      zipped [] [] z e h = tt
      zipped [] (p ∷ ps) z e h = absurd z
      zipped (x ∷ es) [] z e h = absurd z
      zipped (x ∷ es) (p ∷ ps) z e h = (one, zipped es ps z.1 (ap rest_of e) h.1)
        where
          head_of : List (ℕ × What) → ℕ × What
          head_of [] = told x
          head_of (t ∷ ts) = t

          one : IsByDeadline x
          one = λ sends.
              let same : told x ≡ promised p = ap head_of e in
              let what : x.what ≡ p.what = ap (λ (t : ℕ × What). t.1) same in
              let frame : x.frame ≡ p.frame = ap (λ (t : ℕ × What). t.0) same in
              let by = h.0 (sym (ap (sends_to output) what) ∙ sends) in
              let late : x.time ≤ by.0 = subst (λ (o : Option ℕ). IfSome o (λ latest. x.time ≤ latest)) by.1 z.0.not_late in
              subst (λ f. x.time ≤ f * period + deadline) (sym frame) (let b = by.2 in omega (arith, b, late))

      pub sends_by_deadline : (ticks : ℕ) (es : List Entry) → Keeps own ticks es → AllByRecursion IsByDeadline es
      sends_by_deadline ticks es kept =
          let n = length es in zipped es (first_promises own n) kept.in_time kept.follows (all_first IsSoon n (promises own n) (all_soon n))
