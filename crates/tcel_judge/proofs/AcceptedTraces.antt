-- Lines that a judge accepts are those of a trace that meets the set.
use Rattle.std.proofs.Common.{◌≡◌, ℕ, zero, suc, ◌+◌, ◌-◌, ◌*◌, ◌<◌, ◌≤◌, List, [], ◌∷◌, ◌++◌, length, map, take, refl, sym, ap, ◌∙◌, subst, arith, Option, Some, None, inl, inr, length-append}
use Rattle.std.specs.Prelude.{◌≢◌, ◌⊎◌, Bool, true, false, if◌then◌else◌, nat_le, ◌==◌, ◌&&◌, All, AllPairs, slice_get, get_or, find, option_map, option_and_then}
use Rattle.std.specs.List.{AllZip}
use Rattle.std.specs.List.Sorted.{IsStrictlyIncreasing}
use Rattle.std.specs.Option.{option_map_or}
use Rattle.std.proofs.lemmas.Bool.{cases_lt, both_ways, le-leb, eqb-true, eqb-false, ne_eqb, or_left, or_right}
use Rattle.std.proofs.lemmas.Option.{same_Some, slice_get_within, slice_get-map, get_or_from_slice_get, slice_get-get_or}
use Rattle.std.proofs.lemmas.List.{append-nil, length-map, map_push, take_all, take_more}
use Rattle.std.proofs.lemmas.List.Elements.{All-push}
use Rattle.tcel_num.specs.Entry.{Entry}
use Rattle.tcel_num.specs.Plan.{Plan}
use Rattle.tcel_num.specs.Schedule.{served}
use Rattle.tcel_core.specs.Meets.{Keeps, Shows, IsInTime, entries_of, told, promised}
use Rattle.tcel_core.specs.Promises.{Behavior, Promise, event_promise, first_promise, frame_promises, promises, first_promises, end_promise}
use Rattle.tcel_core.proofs.PromiseLaws.{length-frame_promises}
use Rattle.std.proofs.lemmas.Slice.Zip.{all_zipped_more}
use Rattle.tcel_code.proofs.TaskMeets.{map_got}
use Rattle.tcel_trace.specs.declared.trace_line.TraceLine.{TraceLine}
use Rattle.tcel_trace.specs.declared.trace_line.LineWhat.TheVariants.{First}
use Rattle.tcel_script.specs.Script.{same}
use Rattle.tcel_judge.specs.FirstBreach.{Judged, promise_at, own_lines, is_due, is_end, is_disordered, task_breach, entry_breach, breach_behind, total_at, AreRight, IsWhole}
use Rattle.tcel_judge.specs.JudgedTraces.{IsLineOf}
use Rattle.tcel_judge.proofs.EntryLines.{tasks_of, times, same_times, IsBehind, rises_push, is_behind, own_entries}
use Rattle.tcel_judge.proofs.JudgedTraces.{does_of, AreLines, own_of, other_of}
use Rattle.tcel_judge.proofs.NamedTasks.{names, find_place, same_equal}
use Rattle.tcel_judge.proofs.PromisePlaces.{slice_get-behind, promise_of_frame, promise_there, first_promises-push}
use Rattle.tcel_judge.proofs.RightLines.{entry_shown, Comes, entry_comes}

-- a task's entries are the first that it is to make, each inside its window
record Follows (b : Behavior) (entries : List Entry) : Type 0 where
  told_same : map told entries ≡ map promised (first_promises b (length entries))
  in_time : AllZip IsInTime entries (first_promises b (length entries))

follows_push : (b : Behavior) (entries : List Entry) (e : Entry) (p : Promise) → promise_at b (length entries) ≡ Some p → told e ≡ promised p → IsInTime e p
    → Follows b entries → Follows b (entries ++ e ∷ [])
follows_push b entries e p next same_told in_time h =
    let n = length entries in
    let long : length (entries ++ e ∷ []) ≡ suc n = let grown = length-append entries (e ∷ []) in omega (arith, grown) in
    let more : first_promises b (length (entries ++ e ∷ [])) ≡ first_promises b n ++ p ∷ [] = ap (first_promises b) long ∙ first_promises-push b n p next in
    record {
      told_same =
          map_push told entries e ∙ ap (λ l. l ++ told e ∷ []) h.told_same ∙ ap (λ t. map promised (first_promises b n) ++ t ∷ []) same_told
          ∙ sym (ap (map promised) more ∙ map_push promised (first_promises b n) p);
      in_time = subst (AllZip IsInTime (entries ++ e ∷ [])) (sym more) (all_zipped_more IsInTime entries (first_promises b n) e p h.in_time in_time);
    }

neither : {A : Type 0} (d : Bool) (x : A) (o : Option A) → (if d then Some x else o) ≡ None → (d ≡ false) × (o ≡ None)
neither true x o h = absurd cc
neither false x o h = (refl, h)

module _ (set : List Judged) (apart : AllPairs ◌≢◌ (names set)) (plans : List Plan) (each : length plans ≡ length set) (ticks : ℕ) where
  -- the entries of lines with which nothing is wrong
  record Made (lines : List TraceLine) : Type 0 where
    trace : List Entry
    are : AreLines set apart plans each ticks trace lines
    rises : IsStrictlyIncreasing (times trace)
    known : All (λ (e : Entry). e.task < length set) trace
    follows : (i : ℕ) (j : Judged) → slice_get set i ≡ Some j → Follows j.does (entries_of i trace)

  made_none : Made []
  made_none = record { trace = []; are = tt; rises = λ k h. absurd (omega (arith, h)); known = λ k d h. absurd (omega (arith, h)); follows = λ i j at. record { told_same = refl; in_time = tt } }

  -- one line more
  made_task : (before : List TraceLine) (line : TraceLine) → Made before → is_disordered before line ≡ false → (i : ℕ) (j : Judged) (p : Promise) → slice_get set i ≡ Some j
      → promise_at j.does (own_lines j.task.name before) ≡ Some p → j.task.name ≡ line.task → Comes j.task i line p → Made (before ++ line ∷ [])
  made_task before line made ordered i j p at next named comes = record {
    trace = made.trace ++ e ∷ [];
    are = all_zipped_more (IsLineOf (tasks_of set)) made.trace before e line made.are (record { task = j.task; there = task_at; is = comes.is named });
    rises = subst IsStrictlyIncreasing (sym (map_push (λ (x : Entry). x.time) made.trace e)) (rises_push (times made.trace) line.time made.rises behind);
    known = All-push (λ (x : Entry). x.task < length set) made.trace e made.known (slice_get_within set i j at);
    follows = λ k g also. follow k g also (k == i) refl;
  }
    where
      e : Entry
      e = entry_shown i line p

      task_at : slice_get (tasks_of set) i ≡ Some j.task
      task_at = slice_get-map (λ (g : Judged). g.task) set i ∙ ap (option_map (λ (g : Judged). g.task)) at

      behind : IsBehind (times made.trace) line.time
      behind = subst (λ ts. IsBehind ts line.time) (sym (same_times (tasks_of set) made.trace before made.are)) (is_behind before line ordered)

      many : own_lines j.task.name before ≡ length (entries_of i made.trace)
      many = own_entries set apart i j at made.trace before made.are

      own : Follows j.does (entries_of i (made.trace ++ e ∷ []))
      own =
          subst (Follows j.does) (sym (own_of set apart plans each ticks i made.trace [] e refl))
          (follows_push j.does (entries_of i made.trace) e p (ap (promise_at j.does) (sym many) ∙ next) refl comes.in_time (made.follows i j at))

      follow : (k : ℕ) (g : Judged) → slice_get set k ≡ Some g → (b : Bool) → (k == i) ≡ b → Follows g.does (entries_of k (made.trace ++ e ∷ []))
      follow k g also true is =
          let one : k ≡ i = eqb-true k i is in
          let both : j ≡ g = same_Some j g (sym at ∙ ap (slice_get set) (sym one) ∙ also) in
          subst (λ (x : Judged). Follows x.does (entries_of k (made.trace ++ e ∷ []))) both (subst (λ n. Follows j.does (entries_of n (made.trace ++ e ∷ []))) (sym one) own)
      follow k g also false is =
          let other : (i == k) ≡ false = ne_eqb i k (λ one. eqb-false k i is (sym one)) in
          subst (Follows g.does) (sym (other_of set apart plans each ticks k made.trace [] e other ∙ append-nil (entries_of k made.trace))) (made.follows k g also)

  made_more : (before : List TraceLine) (line : TraceLine) → Made before → breach_behind set before line ≡ None → Made (before ++ line ∷ [])
  made_more before line made h = go (find (λ (j : Judged). same j.task.name line.task) set) refl tests.1
    where
      tests : (is_disordered before line ≡ false) × (task_breach (length before + 1) before line (find (λ (j : Judged). same j.task.name line.task) set) ≡ None)
      tests = neither (is_disordered before line) _ (task_breach (length before + 1) before line (find (λ (j : Judged). same j.task.name line.task) set)) h

      go : (o : Option Judged) → find (λ (j : Judged). same j.task.name line.task) set ≡ o → task_breach (length before + 1) before line o ≡ None → Made (before ++ line ∷ [])
      go None is none = absurd cc
      go (Some j) is none =
          let place = find_place (λ (g : Judged). same g.task.name line.task) set j is in
          let next = promise_there j.does (own_lines j.task.name before) in
          let right : entry_breach (length before + 1) j.task line next.0 ≡ None =
          sym (ap (option_and_then (entry_breach (length before + 1) j.task line)) next.1) ∙ none in
          made_task before line made tests.0 place.0 j next.0 place.1 next.1 (same_equal j.task.name line.task place.2)
          (entry_comes (length before + 1) place.0 j.task line next.0 right)

  made_up_to : (lines : List TraceLine) → AreRight set plans ticks lines → (n : ℕ) → n ≤ length lines → Made (take n lines)
  made_up_to lines right zero h = made_none
  made_up_to lines right (suc n) h =
      let none : TraceLine = record { time = 0; task = []; frame = 0; what = First } in
      let line = get_or lines n none in
      let more : n + 1 ≡ suc n = omega arith in
      let at = slice_get-get_or lines n none (omega (arith, h)) in
      let longer : take n lines ++ line ∷ [] ≡ take (suc n) lines = sym (take_more lines n none (omega (arith, h))) ∙ ap (λ k. take k lines) more in
      let right_here : breach_behind set (take n lines) line ≡ None = sym (ap (option_and_then (breach_behind set (take n lines))) at) ∙ right n in
      subst Made longer (made_more (take n lines) line (made_up_to lines right n (omega (arith, h))) right_here)

  -- nothing is missing of such entries
  module _ (lines : List TraceLine) (made : Made lines) (i : ℕ) (j : Judged) (at : slice_get set i ≡ Some j) (whole : IsWhole set plans ticks lines i j) where
    many : own_lines j.task.name lines ≡ length (entries_of i made.trace)
    many = own_entries set apart i j at made.trace lines made.are

    -- an entry that is due stands in the trace
    stands_there : (f k : ℕ) (p : Promise) → slice_get (frame_promises j.does f) k ≡ Some p → is_due ticks (total_at plans i) (served plans ticks i) p ≡ true
        → length (promises j.does f) + k < length (entries_of i made.trace)
    stands_there f k p there due = go (cases_lt (length (promises j.does f) + k) (length (entries_of i made.trace)))
      where
        go : (length (promises j.does f) + k < length (entries_of i made.trace)) ⊎ (length (entries_of i made.trace) ≤ length (promises j.does f) + k)
            → length (promises j.does f) + k < length (entries_of i made.trace)
        go (inl h) = h
        go (inr h) =
            absurd (both_ways (is_due ticks (total_at plans i) (served plans ticks i) p)
            (whole (length (promises j.does f) + k) p (omega (arith, h, many)) (promise_of_frame j.does f k p there)) due)

    complete : (f k : ℕ) (p : Promise) (latest : ℕ) → slice_get (frame_promises j.does f) k ≡ Some p → p.latest ≡ Some latest → latest ≤ ticks
        → length (promises j.does f) + k < length (entries_of i made.trace)
    complete f k p latest there is le =
        stands_there f k p there
        (or_left (option_map_or (λ bound. nat_le bound ticks) p.latest false) (is_end p.what && nat_le ((p.frame + 1) * total_at plans i) (served plans ticks i))
        (ap (λ o. option_map_or (λ bound. nat_le bound ticks) o false) is ∙ le-leb latest ticks le))

    ended : (f : ℕ) (plan : Plan) → slice_get plans i ≡ Some plan → (f + 1) * plan.total ≤ served plans ticks i → length (promises j.does (f + 1)) ≤ length (entries_of i made.trace)
    ended f plan planned le =
        let b = j.does in
        let events = (b.frames f).events in
        let last = end_promise f (b.frames f).state in
        let there : slice_get (frame_promises b f) (length events + 1) ≡ Some last =
        ap (λ n. slice_get (frame_promises b f) (n + 1)) (sym (length-map events (event_promise f (f * b.period))))
        ∙ slice_get-behind (map (event_promise f (f * b.period)) events) (first_promise f (f * b.period) b.deadline ∷ last ∷ []) 1 in
        let total : total_at plans i ≡ plan.total =
        get_or_from_slice_get (map (λ (x : Plan). x.total) plans) i plan.total 0 (slice_get-map (λ (x : Plan). x.total) plans i ∙ ap (option_map (λ (x : Plan). x.total)) planned) in
        let enough : (f + 1) * total_at plans i ≤ served plans ticks i = subst (λ t. (f + 1) * t ≤ served plans ticks i) (sym total) le in
        let due = or_right (option_map_or (λ bound. nat_le bound ticks) last.latest false) (true && nat_le ((f + 1) * total_at plans i) (served plans ticks i)) (le-leb _ _ enough) in
        let stands = stands_there f (length events + 1) last there due in
        let next : f + 1 ≡ suc f = omega arith in
        let long = ap (λ n. length (promises b n)) next ∙ length-append (promises b f) (frame_promises b f) in
        let own = length-frame_promises b f in
        omega (arith, stands, long, own)

  -- the entries meet the set
  shows : (lines : List TraceLine) (made : Made lines) → ((i : ℕ) (j : Judged) → slice_get set i ≡ Some j → IsWhole set plans ticks lines i j) → Shows (does_of set) plans ticks made.trace
  shows lines made whole = record {
    rises = made.rises;
    known = subst (λ n. All (λ (e : Entry). e.task < n) made.trace) (sym (length-map set (λ (j : Judged). j.does))) made.known;
    keeps = λ i b at. keep i b (map_got (λ (j : Judged). j.does) set i b at);
    ended = λ i f b plan at planned le. let own = map_got (λ (j : Judged). j.does) set i b at in
        subst (λ (x : Behavior). length (promises x (f + 1)) ≤ length (entries_of i made.trace)) own.2 (ended lines made i own.0 own.1 (whole i own.0 own.1) f plan planned le);
  }
    where
      keep : (i : ℕ) (b : Behavior) → (j : Judged) × (slice_get set i ≡ Some j) × (j.does ≡ b) → Keeps b ticks (entries_of i made.trace)
      keep i b own =
          let follows = made.follows i own.0 own.1 in
          subst (λ (x : Behavior). Keeps x ticks (entries_of i made.trace)) own.2
          (record { follows = follows.told_same; in_time = follows.in_time; complete = complete lines made i own.0 own.1 (whole i own.0 own.1) })

  pub record Accepted (lines : List TraceLine) : Type 0 where
    pub trace : List Entry
    pub are : AreLines set apart plans each ticks trace lines
    pub shows : Shows (does_of set) plans ticks trace

  pub accepted_meets : (lines : List TraceLine) → AreRight set plans ticks lines → ((i : ℕ) (j : Judged) → slice_get set i ≡ Some j → IsWhole set plans ticks lines i j) → Accepted lines
  accepted_meets lines right whole =
      let made : Made lines = subst Made (take_all (length lines) lines (omega arith)) (made_up_to lines right (length lines) (omega arith)) in
      record { trace = made.trace; are = made.are; shows = shows lines made whole }
