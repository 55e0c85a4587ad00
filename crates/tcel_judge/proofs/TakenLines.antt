-- The courses of a set, of which a line passes one on.
use Rattle.std.proofs.Common.{◌≡◌, ◌≢◌, ℕ, zero, suc, ◌+◌, ◌<◌, ◌≤◌, Bool, true, false, cond, List, [], ◌∷◌, ◌++◌, map, length, get_or, set, take, Option, Some, None, refl, sym, ap, ◌∙◌, subst, ⊎_elim, arith}
use Rattle.std.specs.Prelude.{All, AllPairs, filter, find, is_some, nat_lt, option_and_then, option_map, position}
use Rattle.std.specs.List.{position_or_len}
use Rattle.std.proofs.lemmas.Bool.{cases_Bool, cases_eq, cases_lt, cases_order, cond-true, false_from_ne_true, ltb-false, true≢false}
use Rattle.std.proofs.lemmas.List.{get_or-map, get_or-set_other, get_or-set_same, length-map, length-set, map-set, set-get_or, take_more}
use Rattle.std.proofs.lemmas.List.Elements.{All-get_or, All-from_get_or}
use Rattle.std.proofs.lemmas.List.Folds.{find_at}
use Rattle.std.proofs.lemmas.List.Quantifiers.{position-Some}
use Rattle.std.proofs.lemmas.Option.{slice_get_past, slice_get_read}
use Rattle.tcel_core.proofs.PromiseLaws.{promises_enough}
use Rattle.tcel_judge.specs.declared.course.Course.{Course}
use Rattle.tcel_judge.specs.declared.verdict.Breach.{Breach}
use Rattle.tcel_judge.specs.declared.verdict.Breach.TheVariants as breaches
use Rattle.tcel_judge.specs.Courses.{HasTaken, HaveTaken, IsFirstBreach, Stands, judged, place}
use Rattle.tcel_judge.proofs.NamedTasks.{same_equal, same_self}
use Rattle.tcel_judge.specs.FirstBreach.{Judged, breach_at, breach_behind, entry_breach, is_disordered, own_lines, promise_at, task_breach}
use Rattle.tcel_script.specs.Script.{same}
use Rattle.tcel_trace.specs.declared.trace_line.TraceLine.{TraceLine}

-- ---- names

not_same : (a b : List ℕ) → a ≢ b → same a b ≡ false
not_same a b h = false_from_ne_true (same a b) (λ e. h (same_equal a b e))

abbrev name_of : Course → List ℕ
name_of c = (judged c).task.name

-- ---- the task with a name

abbrev pub is_named : List ℕ → Judged → Bool
is_named name j = same j.task.name name

find_judged : (p : Judged → Bool) (cs : List Course) → find p (map judged cs) ≡ option_map judged (find (λ c. p (judged c)) cs)
find_judged p [] = refl
find_judged p (c ∷ cs) = by_test (p (judged c)) (find_judged p cs)
  where
    by_test : (b : Bool) → find p (map judged cs) ≡ option_map judged (find (λ k. p (judged k)) cs)
        → cond b (Some (judged c)) (find p (map judged cs)) ≡ option_map judged (cond b (Some c) (find (λ k. p (judged k)) cs))
    by_test true less = refl
    by_test false less = less

find_first : (p : Course → Bool) (cs : List Course) (i : ℕ) (d : Course) → i < length cs → p (get_or cs i d) ≡ true
    → ((k : ℕ) → k < i → p (get_or cs k d) ≡ false) → find p cs ≡ Some (get_or cs i d)
find_first p [] i d lt is before = absurd (omega (arith, lt))
find_first p (c ∷ cs) zero d lt is before = rw is refl
find_first p (c ∷ cs) (suc i) d lt is before =
    let not : p c ≡ false = before 0 (omega arith) in
    rw not (find_first p cs i d (omega (arith, lt)) is (λ k less. before (suc k) (omega (arith, less))))

-- the first place with this name is that of the first task with it
pub named_at : (cs : List Course) (name : List ℕ) (i : ℕ) (d : Course) → position (λ c. is_named name (judged c)) cs ≡ Some i
    → find (is_named name) (map judged cs) ≡ Some (judged (get_or cs i d))
named_at cs name i d is =
    let at = position-Some (λ c. is_named name (judged c)) cs i d is in
    find_judged (is_named name) cs ∙ ap (option_map judged) (find_first (λ c. is_named name (judged c)) cs i d at.0 at.1 at.2)

pub named_nowhere : (cs : List Course) (name : List ℕ) → position (λ c. is_named name (judged c)) cs ≡ None → find (is_named name) (map judged cs) ≡ None
named_nowhere cs name is = find_judged (is_named name) cs ∙ ap (option_map judged) (past (λ c. is_named name (judged c)) is)
  where
    past : (p : Course → Bool) → position p cs ≡ None → find p cs ≡ None
    past p none =
        let n = position_or_len p cs in
        find_at p cs
        ∙ ⊎_elim (λ (e : nat_lt n (length cs) ≡ true). let some = cond-true (nat_lt n (length cs)) (Some n) None e in absurd cc)
        (λ (e : nat_lt n (length cs) ≡ false). let far = ltb-false n (length cs) e in slice_get_past cs n (omega (arith, far))) (cases_Bool (nat_lt n (length cs)))

-- ---- the lines of a task

filter_push : (p : TraceLine → Bool) (xs : List TraceLine) (y : TraceLine) → length (filter p (xs ++ y ∷ [])) ≡ length (filter p xs) + cond (p y) 1 0
filter_push p [] y = by_test (p y)
  where
    by_test : (b : Bool) → length (cond b (y ∷ []) []) ≡ 0 + cond b 1 0
    by_test true = refl
    by_test false = refl
filter_push p (x ∷ xs) y = by_test (p x) (filter_push p xs y)
  where
    by_test : (b : Bool) → length (filter p (xs ++ y ∷ [])) ≡ length (filter p xs) + cond (p y) 1 0
        → length (cond b (x ∷ filter p (xs ++ y ∷ [])) (filter p (xs ++ y ∷ []))) ≡ length (cond b (x ∷ filter p xs) (filter p xs)) + cond (p y) 1 0
    by_test true less = omega (arith, less)
    by_test false less = less

filter_fewer : (p : TraceLine → Bool) (xs : List TraceLine) → length (filter p xs) ≤ length xs
filter_fewer p [] = omega arith
filter_fewer p (x ∷ xs) = by_test (p x) (filter_fewer p xs)
  where
    by_test : (b : Bool) → length (filter p xs) ≤ length xs → length (cond b (x ∷ filter p xs) (filter p xs)) ≤ length (x ∷ xs)
    by_test true less = omega (arith, less)
    by_test false less = omega (arith, less)

own_more : (name : List ℕ) (earlier : List TraceLine) (line : TraceLine) (b : Bool) → same line.task name ≡ b → own_lines name (earlier ++ line ∷ []) ≡ own_lines name earlier + cond b 1 0
own_more name earlier line b is = filter_push (λ (l : TraceLine). same l.task name) earlier line ∙ ap (λ t. own_lines name earlier + cond t 1 0) is

-- a course has no more frames behind it than there are lines
pub frames_few : (c : Course) (lines : List TraceLine) → HasTaken lines c → c.frame ≤ length lines
frames_few c lines taken =
    omega (arith, promises_enough (judged c).does c.frame, taken.taken, filter_fewer (λ (l : TraceLine). same l.task (name_of c)) lines)

-- ---- one line

module _ (cs : List Course) (earlier : List TraceLine) (line : TraceLine) (number : ℕ) (counts : number ≡ length earlier + 1) where
  pub unknown : is_disordered earlier line ≡ false → position (λ c. is_named line.task (judged c)) cs ≡ None
      → breach_behind (map judged cs) earlier line ≡ Some (breaches.Unknown number)
  unknown is none = rw is (ap (task_breach (length earlier + 1) earlier line) (named_nowhere cs line.task none) ∙ ap (λ n. Some (breaches.Unknown n)) (sym counts))

  -- what is wrong with the line as the next entry of the task with its name is what is wrong with it
  pub as_entry : (i : ℕ) (d : Course) → is_disordered earlier line ≡ false → position (λ k. is_named line.task (judged k)) cs ≡ Some i → All (HasTaken earlier) cs
      → option_and_then (entry_breach number (judged (get_or cs i d)).task line) (promise_at (judged (get_or cs i d)).does (place (get_or cs i d)))
      ≡ breach_behind (map judged cs) earlier line
  as_entry i d is found taken =
      let c = get_or cs i d in
      let at = position-Some (λ k. is_named line.task (judged k)) cs i d found in
      let here = All-get_or (HasTaken earlier) cs i d at.0 taken in
      let next = λ (n m : ℕ). option_and_then (entry_breach n (judged c).task line) (promise_at (judged c).does m) in
      rw is (ap (λ n. next n (place c)) counts ∙ ap (next (length earlier + 1)) here.taken ∙ ap (task_breach (length earlier + 1) earlier line) (sym (named_at cs line.task i d found)))

-- ---- the courses behind a line

module _ (cs : List Course) (names : AllPairs ◌≢◌ (map (λ (j : Judged). j.task.name) (map judged cs))) where
  name_at : (i : ℕ) (d : Course) → i < length cs → get_or (map (λ (j : Judged). j.task.name) (map judged cs)) i (name_of d) ≡ name_of (get_or cs i d)
  name_at i d lt =
      get_or-map (λ (j : Judged). j.task.name) (map judged cs) i (judged d) (name_of d) (omega (arith, lt, length-map cs judged))
      ∙ ap (λ (j : Judged). j.task.name) (get_or-map judged cs i d (judged d) lt)

  apart_in_order : (i k : ℕ) (d : Course) → i < k → k < length cs → name_of (get_or cs i d) ≢ name_of (get_or cs k d)
  apart_in_order i k d less lt e =
      names i k (name_of d) less (omega (arith, lt, length-map cs judged, length-map (map judged cs) (λ (j : Judged). j.task.name)))
      (name_at i d (omega (arith, less, lt)) ∙ e ∙ sym (name_at k d lt))

  apart : (i k : ℕ) (d : Course) → (k ≡ i → ⊥) → i < length cs → k < length cs → name_of (get_or cs i d) ≢ name_of (get_or cs k d)
  apart i k d other lt also e =
      ⊎_elim (λ (same : i ≡ k). other (sym same))
      (⊎_elim (λ (less : i < k). apart_in_order i k d less also e) (λ (more : k < i). apart_in_order k i d more lt (sym e))) (cases_order i k)

  -- the task with the line's name has passed it, and no other has
  pub taken_next : (earlier : List TraceLine) (line : TraceLine) (i : ℕ) (d new : Course) → position (λ k. is_named line.task (judged k)) cs ≡ Some i
      → HaveTaken (map judged cs) earlier cs → Stands new → judged new ≡ judged (get_or cs i d) → place new ≡ place (get_or cs i d) + 1
      → HaveTaken (map judged cs) (earlier ++ line ∷ []) (set cs i new)
  taken_next earlier line i d new found taken stands alike more =
      record {
        judged = map-set judged cs i new ∙ ap (set (map judged cs) i) (alike ∙ at_place) ∙ set-get_or (map judged cs) i (judged d);
        each = All-from_get_or (HasTaken (earlier ++ line ∷ [])) (set cs i new) d (λ k less. one k (omega (arith, less, length-set cs i new)));
      }
    where
      lt : i < length cs
      lt = (position-Some (λ k. is_named line.task (judged k)) cs i d found).0

      at_place : judged (get_or cs i d) ≡ get_or (map judged cs) i (judged d)
      at_place = sym (get_or-map judged cs i d (judged d) lt)

      is_line : name_of (get_or cs i d) ≡ line.task
      is_line = same_equal (name_of (get_or cs i d)) line.task (position-Some (λ k. is_named line.task (judged k)) cs i d found).1

      old_at : (k : ℕ) → k < length cs → HasTaken earlier (get_or cs k d)
      old_at k less = All-get_or (HasTaken earlier) cs k d less taken.each

      passed : HasTaken (earlier ++ line ∷ []) new
      passed =
          let name = name_of (get_or cs i d) in
          let here = old_at i lt in
          let own = own_more name earlier line true (ap (same line.task) is_line ∙ same_self line.task) in
          let alike_name = ap (λ (j : Judged). own_lines j.task.name (earlier ++ line ∷ [])) alike in
          record { stands = stands; taken = more ∙ ap (λ n. n + 1) here.taken ∙ sym own ∙ sym alike_name }

      other_at : (k : ℕ) → (k ≡ i → ⊥) → k < length cs → HasTaken (earlier ++ line ∷ []) (get_or cs k d)
      other_at k other less =
          let old = old_at k less in
          let name = name_of (get_or cs k d) in
          let own = own_more name earlier line false (not_same line.task name (λ e. apart i k d other lt less (is_line ∙ e))) in
          record { stands = old.stands; taken = old.taken ∙ sym (own ∙ omega arith) }

      one : (k : ℕ) → k < length cs → HasTaken (earlier ++ line ∷ []) (get_or (set cs i new) k d)
      one k less =
          ⊎_elim (λ (e : k ≡ i). subst (λ n. HasTaken (earlier ++ line ∷ []) (get_or (set cs i new) n d)) (sym e) (subst (HasTaken (earlier ++ line ∷ [])) (sym (get_or-set_same cs i new d lt)) passed))
          (λ (other : k ≡ i → ⊥). subst (HasTaken (earlier ++ line ∷ [])) (sym (get_or-set_other cs i k new d other)) (other_at k other less)) (cases_eq k i)

-- ---- all lines

pub not_found : (found : Option Breach) → is_some found ≡ false → found ≡ None
not_found None is = refl
not_found (Some b) is = absurd (true≢false is)

module _ (set : List Judged) (lines : List TraceLine) where
  -- the breach at the place of a line
  pub breach_there : (courses : List Course) (i : ℕ) (line : TraceLine) → map judged courses ≡ set → i < length lines → line ≡ get_or lines i line
      → breach_behind (map judged courses) (take i lines) line ≡ breach_at set lines i
  breach_there courses i line alike lt read =
      ap (λ js. breach_behind js (take i lines) line) alike ∙ ap (option_and_then (breach_behind set (take i lines))) (sym (slice_get_read lines (length lines) i line refl lt read))

  pub first_found : (i : ℕ) (found : Option Breach) → is_some found ≡ true → found ≡ breach_at set lines i → ((k : ℕ) → k < i → breach_at set lines k ≡ None)
      → IsFirstBreach set lines found
  first_found i None some is passed = absurd (true≢false (sym some))
  first_found i (Some b) some is passed = record { place = i; at = sym is; passed = passed }

  pub one_passed : (i : ℕ) → breach_at set lines i ≡ None → ((k : ℕ) → k < i → breach_at set lines k ≡ None) → (k : ℕ) → k < i + 1 → breach_at set lines k ≡ None
  one_passed i none passed k lt =
      ⊎_elim (λ (e : k ≡ i). ap (breach_at set lines) e ∙ none) (λ (other : k ≡ i → ⊥). passed k (omega (arith, lt, other))) (cases_eq k i)

  pub all_passed : (i : ℕ) → length lines ≤ i → ((k : ℕ) → k < i → breach_at set lines k ≡ None) → (k : ℕ) → breach_at set lines k ≡ None
  all_passed i far passed k =
      ⊎_elim (λ (lt : k < i). passed k lt)
      (λ (le : i ≤ k). ap (option_and_then (breach_behind set (take k lines))) (slice_get_past lines k (omega (arith, far, le)))) (cases_lt k i)

  pub taken_along : (courses new : List Course) (i : ℕ) (line : TraceLine) → map judged courses ≡ set → i < length lines → line ≡ get_or lines i line
      → HaveTaken (map judged courses) (take i lines ++ line ∷ []) new → HaveTaken set (take (i + 1) lines) new
  taken_along courses new i line alike lt read h =
      let more = sym (take_more lines i line lt ∙ ap (λ (l : TraceLine). take i lines ++ l ∷ []) (sym read)) in
      record { judged = h.judged ∙ alike; each = subst (λ ls. All (HasTaken ls) new) more h.each }
