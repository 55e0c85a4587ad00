-- What a judge accepts is what meets the set.
use Rattle.std.proofs.Common.{◌≡◌, ℕ, zero, suc, ◌+◌, ◌-◌, ◌*◌, ◌≤◌, List, [], ◌∷◌, ◌++◌, length, map, take, refl, sym, ap, ◌∙◌, subst, arith, Option, Some, None, inl, inr, length-append}
use Rattle.std.specs.Prelude.{◌≢◌, ◌⊎◌, true, false, nat_le, ◌==◌, ◌&&◌, AllPairs, slice_get, get_or, find, option_map, option_and_then}
use Rattle.std.specs.List.{AllZip}
use Rattle.std.specs.List.Sorted.{IsStrictlyIncreasing}
use Rattle.std.specs.Option.{option_map_or}
use Rattle.std.proofs.lemmas.Bool.{eq-eqb, false_from_ne_true, leb-true, or_cases, and_parts, cond-true, cond-false}
use Rattle.std.proofs.lemmas.Option.{same_Some, slice_get_within, slice_get-map, get_or_from_slice_get, slice_get-get_or}
use Rattle.std.proofs.lemmas.List.{map-append}
use Rattle.std.proofs.lemmas.List.Elements.{filter-append}
use Rattle.tcel_num.specs.Entry.{Entry}
use Rattle.tcel_num.specs.Plan.{Plan}
use Rattle.tcel_num.specs.Schedule.{served}
use Rattle.tcel_core.specs.Language.{Task}
use Rattle.tcel_core.specs.Meets.{Keeps, Shows, IsInTime, entries_of, told, promised}
use Rattle.tcel_core.specs.Promises.{Behavior, Promise, frame_promises, promises, first_promises}
use Rattle.tcel_core.proofs.PromiseLaws.{promises-add}
use Rattle.tcel_trace.specs.declared.trace_line.TraceLine.{TraceLine}
use Rattle.tcel_script.specs.Script.{same}
use Rattle.tcel_judge.specs.declared.verdict.Verdict.TheVariants.{Yes}
use Rattle.tcel_judge.specs.FirstBreach.{Judged, promise_at, own_lines, is_due, is_end, task_breach, entry_breach, breach_behind, total_at, AreRight, IsWhole, Says, accepted}
use Rattle.tcel_judge.specs.JudgedTraces.{IsLineOf}
use Rattle.tcel_judge.proofs.EntryLines.{tasks_of, times, line_times, same_times, IsBehind, behind_last, not_disordered, judged_at, own_entries}
use Rattle.tcel_judge.proofs.NamedTasks.{names, found}
use Rattle.tcel_judge.proofs.PromisePlaces.{promise_here, Stands, stands, of_frame}
use Rattle.tcel_judge.proofs.RightLines.{line_told, entry_right}

abbrev pub does_of : List Judged → List Behavior
does_of set = map (λ (j : Judged). j.does) set

-- what stands beside the element behind a front
zip_at : {A B : Type 0} (R : A → B → Type 0) (xs zs : List A) (x : A) (ys : List B) → AllZip R (xs ++ x ∷ zs) ys → (y : B) × (slice_get ys (length xs) ≡ Some y) × R x y
zip_at R [] zs x [] h = absurd h
zip_at R [] zs x (y ∷ ys) h = (y, refl, h.0)
zip_at R (w ∷ xs) zs x [] h = absurd h
zip_at R (w ∷ xs) zs x (y ∷ ys) h = zip_at R xs zs x ys h.1

behind_front : {A : Type 0} (xs zs : List A) (x : A) → slice_get (xs ++ x ∷ zs) (length xs) ≡ Some x
behind_front [] zs x = refl
behind_front (w ∷ xs) zs x = behind_front xs zs x

from_take : {A : Type 0} (xs : List A) (n k : ℕ) (x : A) → slice_get (take n xs) k ≡ Some x → slice_get xs k ≡ Some x
from_take [] zero k x h = absurd cc
from_take [] (suc n) k x h = absurd cc
from_take (y ∷ xs) zero k x h = absurd cc
from_take (y ∷ xs) (suc n) zero x h = h
from_take (y ∷ xs) (suc n) (suc k) x h = from_take xs n k x h

-- a list up to a place, the element there, and the rest
record Split {A : Type 0} (xs : List A) (n : ℕ) (x : A) : Type 0 where
  rest : List A
  whole : xs ≡ take n xs ++ x ∷ rest
  long : length (take n xs) ≡ n

split_at : {A : Type 0} (xs : List A) (n : ℕ) (x : A) → slice_get xs n ≡ Some x → Split xs n x
split_at [] n x h = absurd cc
split_at (y ∷ xs) zero x h = record { rest = xs; whole = ap (λ z. z ∷ xs) (same_Some y x h); long = refl }
split_at (y ∷ xs) (suc n) x h =
    let more = split_at xs n x h in
    record { rest = more.rest; whole = ap (λ l. y ∷ l) more.whole; long = ap suc more.long }

zip_take : {A B : Type 0} (R : A → B → Type 0) (n : ℕ) (xs : List A) (ys : List B) → AllZip R xs ys → AllZip R (take n xs) (take n ys)
zip_take R zero xs ys h = tt
zip_take R (suc n) [] [] h = tt
zip_take R (suc n) [] (y ∷ ys) h = absurd h
zip_take R (suc n) (x ∷ xs) [] h = absurd h
zip_take R (suc n) (x ∷ xs) (y ∷ ys) h = (h.0, zip_take R n xs ys h.1)

zip_get : {A B : Type 0} (R : A → B → Type 0) (xs : List A) (ys : List B) (k : ℕ) (y : B) → AllZip R xs ys → slice_get ys k ≡ Some y → (x : A) × (slice_get xs k ≡ Some x) × R x y
zip_get R [] [] k y h at = absurd cc
zip_get R [] (z ∷ ys) k y h at = absurd h
zip_get R (x ∷ xs) [] k y h at = absurd h
zip_get R (x ∷ xs) (z ∷ ys) zero y h at = (x, refl, subst (R x) (same_Some z y at) h.0)
zip_get R (x ∷ xs) (z ∷ ys) (suc k) y h at = zip_get R xs ys k y h.1 at

module _ (set : List Judged) (apart : AllPairs ◌≢◌ (names set)) (plans : List Plan) (each : length plans ≡ length set) (ticks : ℕ) where
  abbrev pub AreLines : List Entry → List TraceLine → Type 0
  AreLines trace lines = AllZip (IsLineOf (tasks_of set)) trace lines

  does_at : (i : ℕ) (j : Judged) → slice_get set i ≡ Some j → slice_get (does_of set) i ≡ Some j.does
  does_at i j at = slice_get-map (λ (g : Judged). g.does) set i ∙ ap (option_map (λ (g : Judged). g.does)) at

  plan_at : (i : ℕ) (j : Judged) → slice_get set i ≡ Some j → (plan : Plan) × (slice_get plans i ≡ Some plan) × (total_at plans i ≡ plan.total)
  plan_at i j at =
      let within = slice_get_within set i j at in
      let none : Plan = record { period = 0; total = 0; points = [] } in
      let there = slice_get-get_or plans i none (omega (arith, within, each)) in (
        get_or plans i none,
        there,
        get_or_from_slice_get (map (λ (plan : Plan). plan.total) plans) i (get_or plans i none).total 0
            (slice_get-map (λ (plan : Plan). plan.total) plans i ∙ ap (option_map (λ (plan : Plan). plan.total)) there),
      )

  pub own_of : (i : ℕ) (front rest : List Entry) (e : Entry) → e.task ≡ i → entries_of i (front ++ e ∷ rest) ≡ entries_of i front ++ e ∷ entries_of i rest
  own_of i front rest e is =
      filter-append (λ (x : Entry). x.task == i) front (e ∷ rest) ∙ ap (λ l. entries_of i front ++ l) (cond-true _ _ _ (eq-eqb e.task i is))

  pub other_of : (i : ℕ) (front rest : List Entry) (e : Entry) → (e.task == i) ≡ false → entries_of i (front ++ e ∷ rest) ≡ entries_of i front ++ entries_of i rest
  other_of i front rest e is =
      filter-append (λ (x : Entry). x.task == i) front (e ∷ rest) ∙ ap (λ l. entries_of i front ++ l) (cond-false _ _ _ is)

  -- ---- a trace that meets the set is accepted

  -- the entry behind these of its task is the promise at their number
  promise_met : (b : Behavior) (front rest : List Entry) (e : Entry) → Keeps b ticks (front ++ e ∷ rest)
      → (p : Promise) × (promise_at b (length front) ≡ Some p) × (told e ≡ promised p) × IsInTime e p
  promise_met b front rest e keeps =
      let n = length (front ++ e ∷ rest) in
      let ps = first_promises b n in
      let beside = zip_at IsInTime front rest e ps keeps.in_time in
      let shown : slice_get (map told (front ++ e ∷ rest)) (length front) ≡ Some (told e) =
      slice_get-map told (front ++ e ∷ rest) (length front) ∙ ap (option_map told) (behind_front front rest e) in
      let due : slice_get (map promised ps) (length front) ≡ Some (promised beside.0) =
      slice_get-map promised ps (length front) ∙ ap (option_map promised) beside.1 in (
        beside.0,
        promise_here b n (length front) beside.0 (from_take (promises b n) n (length front) beside.0 beside.1),
        same_Some (told e) (promised beside.0) (sym shown ∙ ap (λ l. slice_get l (length front)) keeps.follows ∙ due),
        beside.2,
      )

  right_task : (number : ℕ) (front rest : List Entry) (e : Entry) (before : List TraceLine) (line : TraceLine) → Shows (does_of set) plans ticks (front ++ e ∷ rest)
      → AreLines front before → IsLineOf (tasks_of set) e line → task_breach number before line (find (λ (j : Judged). same j.task.name line.task) set) ≡ None
  right_task number front rest e before line shows are h =
      let own = judged_at set apart e line h in
      let j = own.0 in
      let keeps = subst (Keeps j.does ticks) (own_of e.task front rest e refl) (shows.keeps e.task j.does (does_at e.task j own.1)) in
      let met = promise_met j.does (entries_of e.task front) (entries_of e.task rest) e keeps in
      let many = own_entries set apart e.task j own.1 front before are in
      let is : line ≡ line_told j.task e = h.is ∙ ap (λ (t : Task). line_told t e) (sym own.2) in
      ap (λ (l : TraceLine). task_breach number before l (find (λ (g : Judged). same g.task.name l.task) set)) is
      ∙ ap (task_breach number before (line_told j.task e)) (found set apart e.task j own.1)
      ∙ ap (λ n. option_and_then (entry_breach number j.task (line_told j.task e)) (promise_at j.does n)) many
      ∙ ap (option_and_then (entry_breach number j.task (line_told j.task e))) met.1
      ∙ entry_right number j.task e met.0 met.2 met.3

  right_behind : (front rest : List Entry) (e : Entry) (before : List TraceLine) (line : TraceLine) → Shows (does_of set) plans ticks (front ++ e ∷ rest)
      → AreLines front before → IsLineOf (tasks_of set) e line → breach_behind set before line ≡ None
  right_behind front rest e before line shows are h =
      let rises : IsStrictlyIncreasing (times front ++ e.time ∷ times rest) = subst IsStrictlyIncreasing (map-append (λ (x : Entry). x.time) front (e ∷ rest)) shows.rises in
      let behind : IsBehind (line_times before) e.time = subst (λ ts. IsBehind ts e.time) (same_times (tasks_of set) front before are) (behind_last (times front) (times rest) e.time rises) in
      let ordered = not_disordered before line (subst (IsBehind (line_times before)) (sym (ap (λ (l : TraceLine). l.time) h.is)) behind) in
      cond-false _ _ _ ordered ∙ right_task (length before + 1) front rest e before line shows are h

  lines_right : (trace : List Entry) (lines : List TraceLine) → Shows (does_of set) plans ticks trace → AreLines trace lines → AreRight set plans ticks lines
  lines_right trace lines shows are place = go (slice_get lines place) refl
    where
      go : (o : Option TraceLine) → slice_get lines place ≡ o → option_and_then (breach_behind set (take place lines)) o ≡ None
      go None at = refl
      go (Some line) at =
          let beside = zip_get (IsLineOf (tasks_of set)) trace lines place line are at in
          let split = split_at trace place beside.0 beside.1 in
          right_behind (take place trace) split.rest beside.0 (take place lines) line (subst (Shows (does_of set) plans ticks) split.whole shows)
          (zip_take (IsLineOf (tasks_of set)) place trace lines are) beside.2

  -- later frames have the entries of earlier ones in front
  enough_frames : (b : Behavior) (f more : ℕ) → length (promises b f) ≤ length (promises b (f + more))
  enough_frames b f more = let later = promises-add b f more in let long = ap length later.1 ∙ length-append (promises b f) later.0 in omega (arith, long)

  whole : (trace : List Entry) (lines : List TraceLine) → Shows (does_of set) plans ticks trace → AreLines trace lines
      → (i : ℕ) (j : Judged) → slice_get set i ≡ Some j → IsWhole set plans ticks lines i j
  whole trace lines shows are i j at place p from there =
      false_from_ne_true (is_due ticks (total_at plans i) (served plans ticks i) p) (λ due. go (or_cases _ _ due))
    where
      keeps : Keeps j.does ticks (entries_of i trace)
      keeps = shows.keeps i j.does (does_at i j at)

      many : own_lines j.task.name lines ≡ length (entries_of i trace)
      many = own_entries set apart i j at trace lines are

      own : Stands j.does place p
      own = stands j.does place p there

      closed : (latest : Option ℕ) → p.latest ≡ latest → option_map_or (λ bound. nat_le bound ticks) latest false ≡ true → ⊥
      closed None is h = absurd cc
      closed (Some bound) is h =
          let le = leb-true bound ticks h in
          let complete = keeps.complete own.frame own.number p bound own.there is le in
          let here = own.at in
          omega (arith, complete, here, from, many)

      served_whole : nat_le ((p.frame + 1) * total_at plans i) (served plans ticks i) ≡ true → ⊥
      served_whole h =
          let plan = plan_at i j at in
          let frame = of_frame j.does own.frame own.number p own.there in
          let le : (own.frame + 1) * plan.0.total ≤ served plans ticks i =
          subst (λ f. (f + 1) * plan.0.total ≤ served plans ticks i) frame (subst (λ t. (p.frame + 1) * t ≤ served plans ticks i) plan.2 (leb-true _ _ h)) in
          let ended = shows.ended i own.frame j.does plan.0 (does_at i j at) plan.1 le in
          let next : own.frame + 1 ≡ suc own.frame = omega arith in
          let long = ap (λ n. length (promises j.does n)) next ∙ length-append (promises j.does own.frame) (frame_promises j.does own.frame) in
          let inside = slice_get_within (frame_promises j.does own.frame) own.number p own.there in
          let here = own.at in
          omega (arith, ended, long, inside, here, from, many)

      go : (option_map_or (λ bound. nat_le bound ticks) p.latest false ≡ true) ⊎ ((is_end p.what && nat_le ((p.frame + 1) * total_at plans i) (served plans ticks i)) ≡ true) → ⊥
      go (inl h) = closed p.latest refl h
      go (inr h) = served_whole (and_parts _ _ h).1

  pub met_is_accepted : (trace : List Entry) (lines : List TraceLine) → Shows (does_of set) plans ticks trace → AreLines trace lines → Says set plans ticks lines Yes
  met_is_accepted trace lines shows are = accepted (lines_right trace lines shows are) (whole trace lines shows are)
