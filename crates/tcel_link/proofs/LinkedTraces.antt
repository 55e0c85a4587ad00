-- What a machine's trace over the derived script shows of linked tasks.
use Rattle.std.proofs.Common.{◌≡◌, ℕ, zero, suc, ◌+◌, ◌-◌, ◌*◌, ◌==◌, ◌<◌, ◌≤◌, Bool, true, false, cond, not, ◌&&◌, nat_le, ℤ, pos, List, [], ◌∷◌, ◌++◌, length, map, get_or, All, Option, Some, None, refl, sym, ap, ◌∙◌, subst, ⊎_elim, arith}
use Rattle.std.specs.Prelude.{filter, find, slice_get}
use Rattle.std.specs.List.{AllByRecursion}
use Rattle.std.specs.List.Sorted.{IsStrictlyIncreasing}
use Rattle.std.proofs.lemmas.Bool.{cases_Bool, and_parts, eq-eqb, eqb-true}
use Rattle.std.proofs.lemmas.Bool.Decides.{nat_tests}
use Rattle.std.proofs.lemmas.List.Elements.{filter-append, recursion_from_All}
use Rattle.std.proofs.lemmas.List.FromFn.{get_or-map-range_with_len, length-map-range_with_len}
use Rattle.std.proofs.lemmas.Option.{get_or_from_slice_get, slice_get_within}
use Rattle.std.proofs.Math.Nat.{le-mul_of_pos_right, zero-mul}
use Rattle.tcel_core.specs.declared.event.Event.{Event}
use Rattle.tcel_core.specs.declared.event.EventKind.{EventKind}
use Rattle.tcel_core.specs.declared.event.EventKind.TheVariants.{Receive, Send}
use Rattle.tcel_core.specs.Frames.{Frame, frame_of}
use Rattle.tcel_core.specs.Language.{Task}
use Rattle.tcel_core.specs.Meets.{Keeps, Meets, behaviors_of, entries_of, promised, told}
use Rattle.tcel_core.specs.Outcome.{EnclosingBlock, Occurrence}
use Rattle.tcel_core.specs.Promises.{Behavior, Promise, behavior_of, end_promise, event_promise, first_promise, first_promises, frame_promises, promises, what_of}
use Rattle.tcel_core.specs.Sound.{IsSoundSet}
use Rattle.tcel_core.specs.Windows.{event_of, latest, lesser, start_bound}
use Rattle.tcel_link.specs.declared.link.Link.{Link}
use Rattle.tcel_link.specs.Conditions.{AreLinks, FitsInputs, IsInRange}
use Rattle.tcel_link.specs.Laws.{LinkedTracesMeet}
use Rattle.tcel_link.specs.Linked.{Ran, all_replaced, derived, derived_stream, frames_before, is_send, last_or, linked_frame, received, replaced, sample, sent, sent_by}
use Rattle.tcel_link.specs.Links.{feeds, task_at}
use Rattle.tcel_link.specs.Traces.{IsReleased, MeetsLinked, ReceivesAreExplained, carried_by, is_carried, linked_behavior, linked_behaviors, sends_to, value_of}
use Rattle.tcel_link.proofs.Alike.{HaveReleased, all_both, all_first, all_right, ended_same, keeps_same, none_closed, rest_of}
use Rattle.tcel_link.proofs.Carrying.{IsByDeadline, as_told, frames_sent, has_come, is_sent, kept_sent, sends_by_deadline, sent_in}
use Rattle.tcel_link.proofs.DerivedFrames.{counts, derived_frames_are_linked, one_more}
use Rattle.tcel_link.proofs.History.{at_time, before, late_sends}
use Rattle.tcel_link.proofs.NextFrames.{sound_timed}
use Rattle.tcel_link.proofs.Samples.{found_holds, receives_are_samples}
use Rattle.tcel_link.proofs.Standing.{AreTimed}
use Rattle.tcel_num.specs.Entry.{Entry, What, receive}
use Rattle.tcel_num.specs.Plan.{Plan}
use Rattle.tcel_script.specs.Script.{Streams}

-- ---- the derived script has as many streams

length-replaced : (f : ℕ → Option (List ℤ)) (n : ℕ) (xs : List (List ℤ)) → length (replaced f n xs) ≡ length xs
length-replaced f n [] = refl
length-replaced f n (x ∷ xs) = ap suc (length-replaced f (n + 1) xs)

lengths_stay : (f : ℕ → ℕ → Option (List ℤ)) (n : ℕ) (rows : Streams) → map length (all_replaced f n rows) ≡ map length rows
lengths_stay f n [] = refl
lengths_stay f n (row ∷ rows) =
    ap (λ k. k ∷ map length (all_replaced f (n + 1) rows)) (length-replaced (f n) 0 row) ∙ ap (λ ks. length row ∷ ks) (lengths_stay f (n + 1) rows)

derived_fits : (tasks : List Task) (links : List Link) (streams : Streams) (ticks : ℕ) → FitsInputs tasks streams → FitsInputs tasks (derived tasks links streams ticks)
derived_fits tasks links streams ticks fits = lengths_stay (derived_stream tasks links streams ticks) 0 streams ∙ fits

-- ---- what each task is to do, by its number

behavior_at : (tasks : List Task) (streams : Streams) (i : ℕ) → i < length tasks → slice_get (behaviors_of tasks streams) i ≡ Some (behavior_of (task_at tasks i) (get_or streams i []))
behavior_at [] streams i h = absurd (omega (arith, h))
behavior_at (task ∷ tasks) [] zero h = refl
behavior_at (task ∷ tasks) [] (suc i) h = behavior_at tasks [] i (omega (arith, h)) ∙ ap (λ s. Some (behavior_of (task_at tasks i) s)) (nothing i)
  where
    none : List (List (List ℤ))
    none = []

    nothing : (i : ℕ) → get_or none i [] ≡ get_or none (suc i) []
    nothing zero = refl
    nothing (suc i) = refl
behavior_at (task ∷ tasks) (s ∷ streams) zero h = refl
behavior_at (task ∷ tasks) (s ∷ streams) (suc i) h = behavior_at tasks streams i (omega (arith, h))

length-behaviors : (tasks : List Task) (streams : Streams) → length (behaviors_of tasks streams) ≡ length tasks
length-behaviors [] streams = refl
length-behaviors (task ∷ tasks) [] = ap suc (length-behaviors tasks [])
length-behaviors (task ∷ tasks) (s ∷ streams) = ap suc (length-behaviors tasks streams)

-- ---- the entries of a task among others

entries_all : (P : Entry → Type 0) (i : ℕ) (es : List Entry) → AllByRecursion (λ (e : Entry). e.task ≡ i → P e) es → AllByRecursion P (entries_of i es)
entries_all P i [] h = tt
entries_all P i (e ∷ es) h =
    by_test (e.task == i) (λ same. h.0 (eqb-true e.task i same)) (entries_all P i es h.1)
  where
    by_test : (b : Bool) → (b ≡ true → P e) → AllByRecursion P (entries_of i es) → AllByRecursion P (cond b (e ∷ entries_of i es) (entries_of i es))
    by_test true one rest = (one refl, rest)
    by_test false one rest = rest

pub given_all : {X : Type 0} (P Q : X → Type 0) (xs : List X) → ((x : X) → P x → Q x) → AllByRecursion P xs → AllByRecursion Q xs
given_all P Q [] f h = tt
given_all P Q (x ∷ xs) f h = (f x h.0, given_all P Q xs f h.1)

module _ (tasks : List Task) (links : List Link) (streams : Streams) (ticks : ℕ) (sound : IsSoundSet tasks) (fits : FitsInputs tasks streams) (are : AreLinks tasks links) where
  abbrev timed : AreTimed tasks
  timed = sound_timed tasks sound

  abbrev script : ℕ → Streams
  script until = derived tasks links streams until

  abbrev frames : ℕ → ℕ → Frame
  frames number = linked_frame tasks links streams number

  -- the frames of a task over the script that is derived up to an end
  abbrev given : ℕ → ℕ → ℕ → Frame
  given until number = frame_of (task_at tasks number) (get_or (script until) number [])

  frames_same : (until number f : ℕ) → number < length tasks → f * (task_at tasks number).period < until → given until number f ≡ frames number f
  frames_same until number f inside early = derived_frames_are_linked tasks links streams until number f fits are (timed.period number inside) early

  -- the entries of a task are of released frames
  released_of : (number : ℕ) (shown : List Entry) → AllByRecursion (IsReleased tasks ticks) shown → HaveReleased (task_at tasks number).period (task_at tasks number).deadline ticks (entries_of number shown)
  released_of number shown all =
      let period = (task_at tasks number).period in
      entries_all (λ (e : Entry). e.frame * period < ticks) number shown
      (given_all (IsReleased tasks ticks) (λ (e : Entry). e.task ≡ number → e.frame * period < ticks) shown
      (λ e h same.
      let early : e.frame * (task_at tasks e.task).period < ticks = let r = h.released in let w = h.within in omega (arith, r, w) in
      subst (λ n. e.frame * (task_at tasks n).period < ticks) same early) all)

  -- ---- the trace meets the linked meaning

  module _ (plans : List Plan) (shown longer : List Entry) (meets : Meets tasks plans (script ticks) ticks shown) (begun : AllByRecursion (IsReleased tasks ticks) shown)
      (also : Meets tasks plans (script (ticks + 1)) ticks longer) (also_begun : AllByRecursion (IsReleased tasks ticks) longer) where
    kept_linked : (number : ℕ) → number < length tasks → Keeps (linked_behavior tasks links streams number) ticks (entries_of number shown)
    kept_linked number inside =
        let task = task_at tasks number in
        let one = meets.keeps number (behavior_of task (get_or (script ticks) number [])) (behavior_at tasks (script ticks) number inside) in
        let other = also.keeps number (behavior_of task (get_or (script (ticks + 1)) number [])) (behavior_at tasks (script (ticks + 1)) number inside) in
        keeps_same task.period task.deadline ticks (given ticks number) (frames number) (λ f early. frames_same ticks number f inside early) (entries_of number shown)
        (released_of number shown begun) one
        (none_closed task.period task.deadline ticks (given (ticks + 1) number) (frames number) (λ f early. frames_same (ticks + 1) number f inside early) (entries_of number longer)
        (released_of number longer also_begun) other)

    abbrev linked : List Behavior
    linked = linked_behaviors tasks links streams

    linked_inside : (i : ℕ) (b : Behavior) → slice_get linked i ≡ Some b → i < length tasks
    linked_inside i b is = let within = slice_get_within linked i b is in omega (arith, within, length-map-range_with_len (linked_behavior tasks links streams) 0 (length tasks))

    linked_is : (i : ℕ) (b : Behavior) → slice_get linked i ≡ Some b → linked_behavior tasks links streams i ≡ b
    linked_is i b is =
        sym (get_or-map-range_with_len (linked_behavior tasks links streams) 0 (length tasks) i i b (linked_inside i b is) (omega arith)) ∙ get_or_from_slice_get linked i b b is

    pub meets_linked : MeetsLinked tasks links plans streams ticks shown
    meets_linked =
        record {
          rises = meets.rises;
          known = subst (λ n. All (λ (e : Entry). e.task < n) shown)
              (length-behaviors tasks (script ticks) ∙ sym (length-map-range_with_len (linked_behavior tasks links streams) 0 (length tasks))) meets.known;
          keeps = λ i b is. subst (λ (l : Behavior). Keeps l ticks (entries_of i shown)) (linked_is i b is) (kept_linked i (linked_inside i b is));
          ended = λ i f b plan is plan_is due.
              let inside = linked_inside i b is in
              let task = task_at tasks i in
              let own = behavior_of task (get_or (script ticks) i []) in
              let on : f + 1 ≡ suc f = omega arith in
              let long = meets.ended i f own plan (behavior_at tasks (script ticks) i inside) plan_is due in
              let all = ended_same task.period task.deadline ticks (given ticks i) (frames i) (λ g early. frames_same ticks i g inside early) (entries_of i shown) f
              (released_of i shown begun) (meets.keeps i own (behavior_at tasks (script ticks) i inside)) (subst (λ n. length (promises own n) ≤ length (entries_of i shown)) on long) in
              subst (λ (l : Behavior). length (promises l (f + 1)) ≤ length (entries_of i shown)) (linked_is i b is)
              (subst (λ n. length (promises (linked_behavior tasks links streams i) n) ≤ length (entries_of i shown)) (sym on) all);
        }

    -- ---- receives have samples

    -- what a frame tells is a receive of the sample, or no receive over a link
    abbrev IsSampled : ℕ → ℕ → What → Type 0
    IsSampled number f (receive input value) =
        let time = f * (task_at tasks number).period in
        (link : Link) → find (feeds number input) links ≡ Some link → value ≡ sample tasks (frames_before tasks links streams time) time link
    IsSampled number f _ = Unit {0}

    abbrev PromisesSample : ℕ → Promise → Type 0
    PromisesSample number p = IsSampled number p.frame p.what

    -- a value is a link's sample in a frame
    abbrev IsIt : ℕ → ℕ → Link → ℤ → Type 0
    IsIt number f link v = let time = f * (task_at tasks number).period in v ≡ sample tasks (frames_before tasks links streams time) time link

    abbrev AreSamples : ℕ → ℕ → List Event → Type 0
    AreSamples number f events = (input : ℕ) (link : Link) → find (feeds number input) links ≡ Some link → AllByRecursion (IsIt number f link) (received input events)

    sampled_frame : (number f release deadline : ℕ) (events : List Event) (state : List ℤ) → AreSamples number f events
        → AllByRecursion (PromisesSample number) (map (event_promise f release) events ++ (first_promise f release deadline ∷ end_promise f state ∷ []))
    sampled_frame number f release deadline [] state h = (tt, (tt, tt))
    sampled_frame number f release deadline (e ∷ events) state h =
        (by_kind e.kind h, sampled_frame number f release deadline events state (λ input link found. later (not (is_send e.kind) && e.port == input) input link (h input link found)))
      where
        rest : ℕ → List Event
        rest input = filter (λ (e : Event). not (is_send e.kind) && e.port == input) events

        later : (b : Bool) (input : ℕ) (link : Link) → AllByRecursion (IsIt number f link) (map (λ (e : Event). e.value) (cond b (e ∷ rest input) (rest input)))
            → AllByRecursion (IsIt number f link) (map (λ (e : Event). e.value) (rest input))
        later true input link all = all.1
        later false input link all = all

        this : (b : Bool) (input : ℕ) (link : Link) → b ≡ true → AllByRecursion (IsIt number f link) (map (λ (e : Event). e.value) (cond b (e ∷ rest input) (rest input))) → IsIt number f link e.value
        this true input link is all = all.0
        this false input link is all = absurd cc

        by_kind : (kind : EventKind) → ((input : ℕ) (link : Link) → find (feeds number input) links ≡ Some link
            → AllByRecursion (IsIt number f link) (map (λ (e : Event). e.value) (cond (not (is_send kind) && e.port == input) (e ∷ rest input) (rest input)))) → IsSampled number f (what_of kind e.port e.value)
        by_kind Send all = tt
        by_kind Receive all = λ link found. this (e.port == e.port) e.port link (eq-eqb e.port e.port refl) (all e.port link found)

    sampled_promises : (number m : ℕ) → AllByRecursion (PromisesSample number) (promises (linked_behavior tasks links streams number) m)
    sampled_promises number zero = tt
    sampled_promises number (suc m) =
        let b = linked_behavior tasks links streams number in
        let frame = frames number m in
        let time = m * b.period in
        all_both (PromisesSample number) (promises b m) (frame_promises b m) (sampled_promises number m)
        (sampled_frame number m time b.deadline frame.events frame.state (λ input link found. receives_are_samples tasks links streams time number input link fits are found))

    told_sampled : (number : ℕ) (es : List Entry) (ps : List Promise) → map told es ≡ map promised ps → AllByRecursion (PromisesSample number) ps
        → AllByRecursion (λ (e : Entry). IsSampled number e.frame e.what) es
    told_sampled number [] ps e h = tt
    told_sampled number (x ∷ es) [] e h = absurd cc
    told_sampled number (x ∷ es) (p ∷ ps) e h =
        (subst (λ (t : ℕ × What). IsSampled number t.0 t.1) (sym (ap head_of e)) h.0, told_sampled number es ps (ap rest_of e) h.1)
      where
        head_of : List (ℕ × What) → ℕ × What
        head_of [] = told x
        head_of (t ∷ ts) = t

    entries_sampled : (number : ℕ) → number < length tasks → AllByRecursion (λ (e : Entry). IsSampled number e.frame e.what) (entries_of number shown)
    entries_sampled number inside =
        let es = entries_of number shown in
        let b = linked_behavior tasks links streams number in
        told_sampled number es (first_promises b (length es)) (kept_linked number inside).follows
        (all_first (PromisesSample number) (length es) (promises b (length es)) (sampled_promises number (length es)))

    -- ---- sends stand in front

    latest_most : (deadline : ℕ) (around : List EnclosingBlock) → latest deadline around ≤ deadline
    latest_most deadline [] = omega arith
    latest_most deadline (b ∷ bs) =
        omega (arith, lesser_most b.window.within (lesser (start_bound b) (latest deadline bs)), lesser_most (start_bound b) (latest deadline bs), latest_most deadline bs)
      where
        lesser_most : (bound : Option ℕ) (time : ℕ) → lesser bound time ≤ time
        lesser_most None time = omega arith
        lesser_most (Some bound) time = omega arith

    events_soon : (deadline : ℕ) (os : List Occurrence) → AllByRecursion (λ (e : Event). e.latest ≤ deadline) (map (event_of deadline) os)
    events_soon deadline [] = tt
    events_soon deadline (o ∷ os) = (latest_most deadline o.around, events_soon deadline os)

    module _ (link : Link) (from : link.from < length tasks) (time : ℕ) (early : time ≤ ticks) where
      abbrev producer : Task
      producer = task_at tasks link.from

      abbrev sent_is : Entry → Bool
      sent_is e = is_sent producer.period producer.deadline link.output time (told e)

      -- the sends of all frames by the linked meaning
      summed : (m : ℕ) → sent_by producer link.output time (before tasks links streams link.from (m * producer.period))
          ≡ sent_in producer.period producer.deadline link.output time (map promised (promises (linked_behavior tasks links streams link.from) m))
      summed zero = ap (λ t. sent_by producer link.output time (before tasks links streams link.from t)) (zero-mul producer.period)
      summed (suc m) =
          let often = timed.period link.from from in
          let release = m * producer.period in
          let earlier = before tasks links streams link.from release in
          let last = at_time tasks links streams link.from release in
          let S = λ (fs : List Ran). sent_by producer link.output time fs in
          ap S (one_more tasks links streams ticks link.from fits are often m)
          ∙ ap (λ k. S earlier ++ cond (nat_le (k + producer.deadline) time) (sent link.output last.frame.events) []) (counts tasks links streams ticks link.from fits are often m)
          ∙ ap (λ vs. vs ++ cond (nat_le (release + producer.deadline) time) (sent link.output last.frame.events) []) (summed m)
          ∙ sym (frames_sent producer.period producer.deadline link.output time (frames link.from) m)

      filter_twice : (es : List Entry) → filter (is_carried tasks link time) es ≡ filter sent_is (entries_of link.from es)
      filter_twice [] = refl
      filter_twice (e ∷ es) = by_test (e.task == link.from) (filter_twice es)
        where
          by_test : (b : Bool) → filter (is_carried tasks link time) es ≡ filter sent_is (entries_of link.from es)
              → cond (b && sent_is e) (e ∷ filter (is_carried tasks link time) es) (filter (is_carried tasks link time) es)
              ≡ filter sent_is (cond b (e ∷ entries_of link.from es) (entries_of link.from es))
          by_test true rest = ap (λ (l : List Entry). cond (sent_is e) (e ∷ l) l) rest
          by_test false rest = rest

      -- the trace shows all of them
      pub all_carried : carried_by tasks link time shown ≡ sent_by producer link.output time (frames_before tasks links streams time link.from)
      all_carried =
          let es = entries_of link.from shown in
          let m = length es + time in
          let often = timed.period link.from from in
          let far = le-mul_of_pos_right m often in
          ap (map (λ (e : Entry). value_of e.what)) (filter_twice shown)
          ∙ as_told producer.period producer.deadline link.output time es
          ∙ kept_sent producer.period producer.deadline link.output time (frames link.from) ticks time es early (kept_linked link.from from)
          ∙ sym (summed m)
          ∙ late_sends tasks links streams link.from link.output time (m * producer.period - time) (m * producer.period) (omega (arith, far)) (timed.deadline link.from from)

      abbrev IsSoonEnough : Entry → Type 0
      IsSoonEnough = IsByDeadline producer.period producer.deadline link.output time (frames link.from)

      soon_enough : AllByRecursion IsSoonEnough (entries_of link.from shown)
      soon_enough =
          sends_by_deadline producer.period producer.deadline link.output time (frames link.from) (λ f. events_soon producer.deadline _) ticks (entries_of link.from shown) (kept_linked link.from from)

      -- behind a later time there is none
      none_behind : (low : ℕ) (es : List Entry) → time < low → AllByRecursion (λ (e : Entry). low ≤ e.time) es → AllByRecursion IsSoonEnough (entries_of link.from es) → carried_by tasks link time es ≡ []
      none_behind low [] late times by = refl
      none_behind low (e ∷ es) late times by = by_test (e.task == link.from) (λ more. none_behind low es late times.1 more) by
        where
          rest : List Entry
          rest = filter (is_carried tasks link time) es

          not_sent : IsSoonEnough e → sent_is e ≡ false
          not_sent soon =
              ⊎_elim (λ (yes_it : sent_is e ≡ true).
              let parts = and_parts (sends_to link.output e.what) (has_come producer.period producer.deadline link.output time e.frame) yes_it in
              let by_then = soon parts.0 in
              let come : nat_le (e.frame * producer.period + producer.deadline) time ≡ true = parts.1 in
              let due : e.frame * producer.period + producer.deadline ≤ time = grind (arith, nat_tests) in
              let t = times.0 in
              absurd (omega (arith, by_then, due, late, t))) (λ (no_it : sent_is e ≡ false). no_it) (cases_Bool (sent_is e))

          by_test : (b : Bool) → (AllByRecursion IsSoonEnough (entries_of link.from es) → carried_by tasks link time es ≡ [])
              → AllByRecursion IsSoonEnough (cond b (e ∷ entries_of link.from es) (entries_of link.from es)) → map (λ (e : Entry). value_of e.what) (cond (b && sent_is e) (e ∷ rest) rest) ≡ []
          by_test true others h = ap (λ b. map (λ (e : Entry). value_of e.what) (cond b (e ∷ rest) rest)) (not_sent h.0) ∙ others h.1
          by_test false others h = others h

    -- ---- times rise

    rises_on : (x : ℕ) (xs : List ℕ) → IsStrictlyIncreasing (x ∷ xs) → IsStrictlyIncreasing xs
    rises_on x xs h = λ k within. let on : suc k + 1 ≡ suc (k + 1) = omega arith in subst (λ n. get_or xs k 0 < get_or (x ∷ xs) n 0) on (h (suc k) (omega (arith, within)))

    rises_behind : (xs ys : List Entry) → IsStrictlyIncreasing (map (λ (e : Entry). e.time) (xs ++ ys)) → IsStrictlyIncreasing (map (λ (e : Entry). e.time) ys)
    rises_behind [] ys h = h
    rises_behind (x ∷ xs) ys h = rises_behind xs ys (rises_on x.time (map (λ (e : Entry). e.time) (xs ++ ys)) h)

    no_earlier : (low : ℕ) (x : Entry) (xs : List Entry) → low ≤ x.time → IsStrictlyIncreasing (map (λ (e : Entry). e.time) (x ∷ xs)) → AllByRecursion (λ (e : Entry). low ≤ e.time) (x ∷ xs)
    no_earlier low x [] le h = (le, tt)
    no_earlier low x (y ∷ ys) le h =
        let next : x.time < y.time = h 0 (omega arith) in
        (le, no_earlier low y ys (omega (arith, le, next)) (rises_on x.time (map (λ (e : Entry). e.time) (y ∷ ys)) h))

    -- ---- one receive

    entry_in : (P : Entry → Type 0) (front after : List Entry) (e : Entry) → AllByRecursion P (entries_of e.task (front ++ e ∷ after)) → P e
    entry_in P front after e h =
        let parts = subst (AllByRecursion P) (filter-append (λ (x : Entry). x.task == e.task) front (e ∷ after)) h in
        by_test (e.task == e.task) (eq-eqb e.task e.task refl) (all_right P (entries_of e.task front) (entries_of e.task (e ∷ after)) parts)
      where
        by_test : (b : Bool) → b ≡ true → AllByRecursion P (cond b (e ∷ entries_of e.task after) (entries_of e.task after)) → P e
        by_test true is h = h.0
        by_test false is h = absurd cc

    pub receives_explained : ReceivesAreExplained tasks links streams shown
    receives_explained front after e input value link is what found =
        let inside : e.task < length tasks = sound_entry in
        let time = e.frame * (task_at tasks e.task).period in
        let there = all_right (IsReleased tasks ticks) front (e ∷ after) (subst (AllByRecursion (IsReleased tasks ticks)) is begun) in
        let released = there.0.released in
        let within = there.0.within in
        let range = (found_holds (IsInRange tasks) (feeds e.task input) links link (recursion_from_All (IsInRange tasks) links are.in_range) found).0 in
        let early : time ≤ ticks = omega (arith, released, within) in
        let whole = all_carried link range.from time early in
        let sampled = entry_in (λ (x : Entry). IsSampled e.task x.frame x.what) front after e
        (subst (λ (es : List Entry). AllByRecursion (λ (x : Entry). IsSampled e.task x.frame x.what) (entries_of e.task es)) is (entries_sampled e.task inside)) in
        let received_it = (subst (IsSampled e.task e.frame) what sampled) link found in
        let soon = subst (λ (es : List Entry). AllByRecursion (IsSoonEnough link range.from time early) (entries_of link.from es)) is (soon_enough link range.from time early) in
        let behind = all_right (IsSoonEnough link range.from time early) (entries_of link.from front) (entries_of link.from (e ∷ after))
        (subst (AllByRecursion (IsSoonEnough link range.from time early)) (filter-append (λ (x : Entry). x.task == link.from) front (e ∷ after)) soon) in
        let times = no_earlier e.time e after (omega arith) (rises_behind front (e ∷ after) (subst (λ (es : List Entry). IsStrictlyIncreasing (map (λ (x : Entry). x.time) es)) is meets.rises)) in
        record {
          last = received_it ∙ ap (last_or (pos 0)) (sym whole);
          earlier = none_behind link range.from time early e.time (e ∷ after) (omega (arith, released)) times behind;
          whole = whole;
        }
      where
        sound_entry : e.task < length tasks
        sound_entry =
            let known = recursion_from_All (λ (x : Entry). x.task < length (behaviors_of tasks (script ticks))) shown meets.known in
            let here = all_right (λ (x : Entry). x.task < length (behaviors_of tasks (script ticks))) front (e ∷ after)
            (subst (AllByRecursion (λ (x : Entry). x.task < length (behaviors_of tasks (script ticks)))) is known) in
            omega (arith, here.0, length-behaviors tasks (script ticks))

pub linked_traces_meet : LinkedTracesMeet
linked_traces_meet tasks links plans streams ticks trace sound fits are runs =
    let here = runs (derived tasks links streams ticks) (derived_fits tasks links streams ticks fits) in
    let later = runs (derived tasks links streams (ticks + 1)) (derived_fits tasks links streams (ticks + 1) fits) in
    let shown = trace (derived tasks links streams ticks) in
    let longer = trace (derived tasks links streams (ticks + 1)) in (
      meets_linked tasks links streams ticks sound fits are plans shown longer here.0 here.1 later.0 later.1,
      receives_explained tasks links streams ticks sound fits are plans shown longer here.0 here.1 later.0 later.1,
    )
