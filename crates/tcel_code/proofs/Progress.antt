-- How far a task is in a run: the entries that it has made, and what is ahead of it. Ticks of its own and of others keep this.
use Rattle.std.proofs.Common.{◌≡◌, ℕ, suc, ◌+◌, ◌*◌, ◌<◌, ◌≤◌, ◌⊎◌, ℤ, List, [], ◌∷◌, ◌++◌, length, map, refl, sym, ap, ◌∙◌, subst, arith, append_assoc, append-nil, Option, Some, None, inl, inr}
use Rattle.std.specs.Prelude.{◌==◌, slice_get, option_to_list, IfSome}
use Rattle.std.specs.List.{AllZip}
use Rattle.std.proofs.lemmas.Bool.{cases_lt, cond-true, cond-false, eq-eqb, ne_eqb}
use Rattle.std.proofs.lemmas.List.{map_push}
use Rattle.tcel_num.specs.Entry.{Entry}
use Rattle.tcel_core.specs.Meets.{IsInTime, told, promised}
use Rattle.tcel_core.specs.Promises.{Behavior, Promise, frame_promises, promises}
use Rattle.tcel_target.specs.declared.costs.Costs.{Costs}
use Rattle.tcel_image.specs.declared.image.ImageTask.{ImageTask}
use Rattle.tcel_image.specs.Machine.{Running, Outcome, own_tick, entry_of}
use Rattle.tcel_code.specs.Domination.{counted}
use Rattle.tcel_code.proofs.Ahead.{Due, Ahead, silent, shows, ends, ahead_later, due_later, one_ahead}

-- an entry of frame f is due by a count of its frame's cycles, which, where the set is timed, the demand schedule reaches in time
pub record IsDue (Timed : Type 0) (total period : ℕ) (service : ℕ → ℕ) (f : ℕ) (due : Due) : Type 0 where
  pub of_frame : due.promise.frame ≡ f
  pub within : due.by ≤ total
  pub reached : Timed → (latest : ℕ) → due.promise.latest ≡ Some latest → f * total + due.by ≤ service latest

abbrev pub promise_of : Due → Promise
promise_of due = due.promise

-- the frames of a task on the machine: where each starts, and which entries it then makes
pub record Frames (Timed : Type 0) (costs : Costs) (task : ImageTask) (inputs : List (List ℤ)) (b : Behavior) (total : ℕ) (service : ℕ → ℕ) : Type 0 where
  pub start : ℕ → Running
  pub dues : ℕ → List Due
  pub frame : (f : ℕ) → (start f).ended ≡ f
  pub ahead : (f : ℕ) → Ahead costs task inputs (start (suc f)) 0 (f * task.period) (start f) (dues f)
  pub made : (f : ℕ) → map promise_of (dues f) ≡ frame_promises b f
  pub each : (f k : ℕ) (due : Due) → slice_get (dues f) k ≡ Some due → IsDue Timed total task.period service f due
  -- the count by which the mark is due, behind the events
  pub mark : ℕ
  pub marks : (f : ℕ) → (due : Due) × (slice_get (dues f) (length (b.frames f).events) ≡ Some due) × (due.by ≤ mark)

slice_get-behind : {A : Type 0} (a b : List A) (k : ℕ) → slice_get (a ++ b) (length a + k) ≡ slice_get b k
slice_get-behind [] b k = let e : 0 + k ≡ k = omega arith in ap (slice_get b) e
slice_get-behind (x ∷ a) b k = let e : suc (length a) + k ≡ suc (length a + k) = omega arith in ap (slice_get (x ∷ a ++ b)) e ∙ slice_get-behind a b k

-- two lists that go on together
pub zip_push : {A B : Type 0} (R : A → B → Type 0) (xs : List A) (ys : List B) (x : A) (y : B) → AllZip R xs ys → R x y → AllZip R (xs ++ x ∷ []) (ys ++ y ∷ [])
zip_push R [] [] x y h r = (r, tt)
zip_push R [] (b ∷ ys) x y h r = absurd h
zip_push R (a ∷ xs) [] x y h r = absurd h
zip_push R (a ∷ xs) (b ∷ ys) x y h r = (h.0, zip_push R xs ys x y h.1 r)

module _ (Timed : Type 0) (costs : Costs) (task : ImageTask) (inputs : List (List ℤ)) (b : Behavior) (total : ℕ) (service : ℕ → ℕ) (frames : Frames Timed costs task inputs b total service) where
  -- a task at a time, which the demand schedule has served so many cycles, and whose frame has run so many ticks
  pub record Progress (now count ran : ℕ) (r : Running) (past : List Entry) : Type 0 where
    pub frame : ℕ
    -- its next tick comes at this time or later
    pub since : ℕ
    pub done : List Due
    pub left : List Due
    pub at : r.ended ≡ frame
    pub split : frames.dues frame ≡ done ++ left
    pub ahead : Ahead costs task inputs (frames.start (suc frame)) ran since r left
    pub told_so_far : map told past ≡ map promised (promises b frame ++ map promise_of done)
    pub in_time : Timed → AllZip IsInTime past (promises b frame ++ map promise_of done)
    pub may_run : (since ≤ now) ⊎ (since ≤ frame * task.period)
    pub dominates : count ≤ frame * total + ran

  -- an entry that is still to come
  pub still_due : (now count ran : ℕ) (r : Running) (past : List Entry) (p : Progress now count ran r past) → (k : ℕ) (due : Due) →
      slice_get (frames.dues p.frame) (length p.done + k) ≡ Some due → ran < due.by
  still_due now count ran r past p k due e =
      due_later p.ahead k due (sym (slice_get-behind p.done p.left k) ∙ ap (λ l. slice_get l (length p.done + k)) (sym p.split) ∙ e)

  -- the first entry that is still to come
  first_due : (now count ran : ℕ) (r : Running) (past : List Entry) (p : Progress now count ran r past) →
      (due : Due) × (slice_get p.left 0 ≡ Some due) × IsDue Timed total task.period service p.frame due
  first_due now count ran r past p =
      let head = one_ahead p.ahead in
      let there = ap (λ l. slice_get l (length p.done + 0)) p.split ∙ slice_get-behind p.done p.left 0 ∙ head.1 in
      (head.0, head.1, frames.each p.frame (length p.done + 0) head.0 there)

  -- a frame that hasn't ended has run fewer ticks than its total
  pub not_ended : (now count ran : ℕ) (r : Running) (past : List Entry) (p : Progress now count ran r past) → ran < total
  not_ended now count ran r past p =
      let due = first_due now count ran r past p in
      let less = due_later p.ahead 0 due.0 due.1 in
      let most = due.2.within in
      omega arith

  -- before its first tick
  pub begins : Progress 0 0 0 (frames.start 0) []
  begins = record {
    frame = 0;
    since = 0 * task.period;
    done = [];
    left = frames.dues 0;
    at = frames.frame 0;
    split = refl;
    ahead = frames.ahead 0;
    told_so_far = refl;
    in_time = λ timed. tt;
    may_run = inl (omega arith);
    dominates = omega arith;
  }

  -- a tick in which it does not run
  pub waits : (now count count' ran : ℕ) (r : Running) (past : List Entry) (p : Progress now count ran r past) → count' ≤ p.frame * total + ran → Progress (now + 1) count' ran r past
  waits now count count' ran r past p h = record {
    frame = p.frame;
    since = p.since;
    done = p.done;
    left = p.left;
    at = p.at;
    split = p.split;
    ahead = p.ahead;
    told_so_far = p.told_so_far;
    in_time = p.in_time;
    may_run = elim p.may_run [ inl g ↦ inl (omega arith) | inr g ↦ inr g ];
    dominates = h;
  }

  module _ (rises : (early late : ℕ) → early ≤ late → service early ≤ service late) (now count count' number ran : ℕ) (r : Running) (past : List Entry) (is : count ≡ service now) (one : count' ≤ count + 1) where
    -- the entry of the tick is in its window
    entry_in_time : Timed → (f : ℕ) (due : Due) → IsDue Timed total task.period service f due → f * task.period ≤ now → count ≤ f * total + ran → ran < due.by →
        (latest : Option ℕ) → due.promise.latest ≡ latest → IfSome latest (λ l. now + 1 ≤ l)
    entry_in_time timed f due d ready most soon None e = tt
    entry_in_time timed f due d ready most soon (Some l) e =
        elim (cases_lt now l) [
          | inl h ↦ omega arith
          | inr h ↦ let g = rises l now h in let due_at = d.reached timed l e in absurd (omega arith)
        ]

    -- a tick in which it goes on silently
    silently : (p : Progress now count ran r past) (to : Running) → to.ended ≡ r.ended →
        Ahead costs task inputs (frames.start (suc p.frame)) (suc ran) (suc now) to p.left → Progress (now + 1) count' (suc ran) to past
    silently p to same ahead = record {
      frame = p.frame;
      since = suc now;
      done = p.done;
      left = p.left;
      at = same ∙ p.at;
      split = p.split;
      ahead = ahead;
      told_so_far = p.told_so_far;
      in_time = p.in_time;
      may_run = inl (omega arith);
      dominates = let g = p.dominates in omega arith;
    }

    -- the entry that a due promise becomes
    abbrev made_now : Due → Entry
    made_now due = record { time = now + 1; task = number; frame = r.ended; what = due.promise.what }

    told_now : (p : Progress now count ran r past) (due : Due) → due.promise.frame ≡ p.frame →
        map told (past ++ made_now due ∷ []) ≡ map promised ((promises b p.frame ++ map promise_of p.done) ++ due.promise ∷ [])
    told_now p due of_frame =
        map_push told past (made_now due)
        ∙ ap (λ l. l ++ told (made_now due) ∷ []) p.told_so_far
        ∙ ap (λ f. map promised (promises b p.frame ++ map promise_of p.done) ++ (f, due.promise.what) ∷ []) (p.at ∙ sym of_frame)
        ∙ sym (map_push promised (promises b p.frame ++ map promise_of p.done) due.promise)

    in_time_now : (p : Progress now count ran r past) (due : Due) → IsDue Timed total task.period service p.frame due → due.promise.earliest ≤ now + 1 → p.frame * task.period ≤ now → ran < due.by → Timed →
        AllZip IsInTime (past ++ made_now due ∷ []) ((promises b p.frame ++ map promise_of p.done) ++ due.promise ∷ [])
    in_time_now p due d early ready soon timed =
        zip_push IsInTime past (promises b p.frame ++ map promise_of p.done) (made_now due) due.promise (p.in_time timed)
        (record { not_early = early; not_late = entry_in_time timed p.frame due d ready p.dominates soon due.promise.latest refl })

    -- the first entry to come, as one of its frame
    head_due : (p : Progress now count ran r past) (due : Due) (others : List Due) → p.left ≡ due ∷ others → IsDue Timed total task.period service p.frame due
    head_due p due others e =
        frames.each p.frame (length p.done + 0) due
        (ap (λ l. slice_get l (length p.done + 0)) p.split ∙ slice_get-behind p.done p.left 0 ∙ ap (λ l. slice_get l 0) e)

    -- a tick in which it makes an entry
    openly : (p : Progress now count ran r past) (due : Due) (others : List Due) (to : Running) → p.left ≡ due ∷ others → to.ended ≡ r.ended → due.promise.earliest ≤ now + 1 → p.frame * task.period ≤ now →
        ran < due.by → Ahead costs task inputs (frames.start (suc p.frame)) (suc ran) (suc now) to others → Progress (now + 1) count' (suc ran) to (past ++ made_now due ∷ [])
    openly p due others to e same early ready soon ahead =
        let d = head_due p due others e in
        let longer = append_assoc (promises b p.frame) (map promise_of p.done) (due.promise ∷ []) ∙ ap (λ l. promises b p.frame ++ l) (sym (map_push promise_of p.done due)) in
        record {
          frame = p.frame;
          since = suc now;
          done = p.done ++ due ∷ [];
          left = others;
          at = same ∙ p.at;
          split = p.split ∙ ap (λ l. p.done ++ l) e ∙ sym (append_assoc p.done (due ∷ []) others);
          ahead = ahead;
          told_so_far = told_now p due d.of_frame ∙ ap (map promised) longer;
          in_time = λ timed. subst (AllZip IsInTime (past ++ made_now due ∷ [])) longer (in_time_now p due d early ready soon timed);
          may_run = inl (omega arith);
          dominates = let g = p.dominates in omega arith;
        }

    -- a tick in which it ends its frame
    lastly : (p : Progress now count ran r past) (due : Due) → p.left ≡ due ∷ [] → due.promise.earliest ≤ now + 1 → p.frame * task.period ≤ now → ran < due.by →
        Progress (now + 1) count' 0 (frames.start (suc p.frame)) (past ++ made_now due ∷ [])
    lastly p due e early ready soon =
        let d = head_due p due [] e in
        let all : frames.dues p.frame ≡ p.done ++ due ∷ [] = p.split ∙ ap (λ l. p.done ++ l) e in
        let longer =
        append_assoc (promises b p.frame) (map promise_of p.done) (due.promise ∷ [])
        ∙ ap (λ l. promises b p.frame ++ l) (sym (map_push promise_of p.done due) ∙ ap (map promise_of) (sym all) ∙ frames.made p.frame)
        ∙ sym (append-nil (promises b (suc p.frame))) in
        record {
          frame = suc p.frame;
          since = suc p.frame * task.period;
          done = [];
          left = frames.dues (suc p.frame);
          at = frames.frame (suc p.frame);
          split = refl;
          ahead = frames.ahead (suc p.frame);
          told_so_far = told_now p due d.of_frame ∙ ap (map promised) longer;
          in_time = λ timed. subst (AllZip IsInTime (past ++ made_now due ∷ [])) longer (in_time_now p due d early ready soon timed);
          may_run = inr (omega arith);
          dominates = let g = p.dominates in let w = d.within in omega arith;
        }

    abbrev After : Outcome → Type 0
    After o = Progress (now + 1) count' (counted r o.task ran) o.task (past ++ option_to_list (entry_of now number r o.shown))

    -- a tick that leaves the frame in progress is counted, and one that ends it is not
    one_more : (to : Running) → to.ended ≡ r.ended → suc ran ≡ counted r to ran
    one_more to same = sym (cond-true (to.ended == r.ended) (suc ran) 0 (eq-eqb to.ended r.ended same))

    none_yet : (to : Running) → (to.ended ≡ r.ended → ⊥) → 0 ≡ counted r to ran
    none_yet to other = sym (cond-false (to.ended == r.ended) (suc ran) 0 (ne_eqb to.ended r.ended other))

    -- a tick of its own
    goes_on : (p : Progress now count ran r past) (left : List Due) → p.left ≡ left → p.frame * task.period ≤ now → (since : ℕ) → since ≤ now →
        Ahead costs task inputs (frames.start (suc p.frame)) ran since r left → After (own_tick costs task inputs now r)
    goes_on p left e ready since may (silent to step same more) =
        subst After (sym (step now may))
        (subst (λ n. Progress (now + 1) count' n (to now) (past ++ [])) (one_more (to now) (same now))
        (subst (Progress (now + 1) count' (suc ran) (to now)) (sym (append-nil past))
        (silently p (to now) (same now) (subst (Ahead costs task inputs (frames.start (suc p.frame)) (suc ran) (suc now) (to now)) (sym e) (more now may)))))
    goes_on p left e ready since may (shows {due = due} {dues = others} to step same early soon more) =
        subst After (sym (step now))
        (subst (λ n. Progress (now + 1) count' n to (past ++ made_now due ∷ [])) (one_more to same)
        (openly p due others to e same (omega arith) ready (omega arith) (ahead_later more (suc now) (omega arith))))
    goes_on p left e ready since may (ends {due = due} step early soon) =
        let last = frames.start (suc p.frame) in
        let at = frames.frame (suc p.frame) in
        let before = p.at in
        subst After (sym (step now))
        (subst (λ n. Progress (now + 1) count' n last (past ++ made_now due ∷ [])) (none_yet last (λ same. absurd (omega arith))) (lastly p due e (omega arith) ready (omega arith)))

    -- a tick in which it runs
    pub runs : (p : Progress now count ran r past) → r.ended * task.period ≤ now → After (own_tick costs task inputs now r)
    runs p ready =
        let ready' : p.frame * task.period ≤ now = subst (λ f. f * task.period ≤ now) p.at ready in
        let may : p.since ≤ now = elim p.may_run [ inl h ↦ h | inr h ↦ omega arith ] in
        goes_on p p.left refl ready' p.since may p.ahead
