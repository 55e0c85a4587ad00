-- The list of marks that the walk leaves is the kept set.
use Rattle.std.proofs.Common.{◌≡◌, ℕ, zero, suc, ◌+◌, ◌≤◌, Bool, true, false, List, [], ◌∷◌, ◌++◌, length, length-append, replicate, refl, sym, ap, ◌∙◌, subst, arith, inl, inr}
use Rattle.std.proofs.lemmas.Bool.{true≢false, cases_lt}
use Rattle.tcel_core.specs.Kept.{IsKeptSet}
use Rattle.tcel_core.specs.Language.{Block, done, next, Stmt, item, choice, timed, Task}
use Rattle.tcel_core.specs.Numbering.{item_numbers, stmt_item_numbers}
use Rattle.tcel_core.specs.Sound.{IsSoundTask}
use Rattle.tcel_flow.specs.declared.step.Step.{Step}
use Rattle.tcel_flow.specs.declared.step.Step.TheVariants as steps
use Rattle.tcel_flow.specs.Backward.{from_end, run, IsStart}
use Rattle.tcel_flow.specs.Shape.{changes, closes, places, stmt_places, IsRow, AreSteps}
use Rattle.tcel_flow.proofs.Backward.{two, walked, stops, from_end_all}
use Rattle.tcel_parts.proofs.Members.{In, numbers_within}
use Rattle.tcel_slice.specs.declared.keeping.Needed.{Needed}
use Rattle.tcel_slice.specs.Keeping.{Known, keeping, marked, items_in, Keeps}
use Rattle.tcel_slice.proofs.Marks.{keep, Same, the_same, new}
use Rattle.tcel_slice.proofs.Closed.{none, marks_of, is_closed}
use Rattle.tcel_slice.proofs.Least.{in_closed}

-- ---- lists of truth values

past_end : (xs : List Bool) (n : ℕ) → length xs ≤ n → marked xs n ≡ false
past_end [] n h = refl
past_end (x ∷ xs) zero h = absurd (omega arith)
past_end (x ∷ xs) (suc n) h = past_end xs n (omega arith)

pub none_marked : (count n : ℕ) → marked (replicate count false) n ≡ false
none_marked zero n = refl
none_marked (suc count) zero = refl
none_marked (suc count) (suc n) = none_marked count n

-- ---- how many items

items_in-append : (xs ys : List Step) → items_in (xs ++ ys) ≡ items_in xs + items_in ys
items_in-append [] ys = omega arith
items_in-append (steps.Item id reads writes event ∷ xs) ys = let more = items_in-append xs ys in omega arith
items_in-append (steps.Open id reads ∷ xs) ys = items_in-append xs ys
items_in-append (steps.Middle ∷ xs) ys = items_in-append xs ys
items_in-append (steps.Close ∷ xs) ys = items_in-append xs ys

one_closes : (xs : List Step) → AreSteps xs (closes ∷ []) → items_in xs ≡ 0
one_closes [] h = absurd h
one_closes (x ∷ y ∷ xs) h = absurd h.1
one_closes (steps.Close ∷ []) h = refl
one_closes (steps.Item id reads writes event ∷ []) h = absurd h.0
one_closes (steps.Open id reads ∷ []) h = absurd h.0
one_closes (steps.Middle ∷ []) h = absurd h.0

one_changes : (xs : List Step) → AreSteps xs (changes ∷ []) → items_in xs ≡ 0
one_changes [] h = absurd h
one_changes (x ∷ y ∷ xs) h = absurd h.1
one_changes (steps.Middle ∷ []) h = refl
one_changes (steps.Item id reads writes event ∷ []) h = absurd h.0
one_changes (steps.Open id reads ∷ []) h = absurd h.0
one_changes (steps.Close ∷ []) h = absurd h.0

mutual
  pub items_counted : (b : Block) (ss : List Step) → AreSteps ss (places b) → items_in ss ≡ length (item_numbers b)
  items_counted done [] h = refl
  items_counted done (x ∷ ss) h = absurd h
  items_counted (next st rest) ss h =
      let pieces = two ss (stmt_places st) (places rest) h in
      let first = stmt_items_counted st pieces.front pieces.first in
      let later = items_counted rest pieces.rest pieces.second in
      let numbers = length-append (stmt_item_numbers st) (item_numbers rest) in
      let all = ap items_in pieces.whole ∙ items_in-append pieces.front pieces.rest in
      omega arith

  stmt_items_counted : (st : Stmt) (ss : List Step) → AreSteps ss (stmt_places st) → items_in ss ≡ length (stmt_item_numbers st)
  stmt_items_counted (item n act) [] h = absurd h
  stmt_items_counted (item n act) (x ∷ y ∷ ss) h = absurd h.1
  stmt_items_counted (item n act) (steps.Item id reads writes event ∷ []) h = refl
  stmt_items_counted (item n act) (steps.Open id reads ∷ []) h = absurd h.0
  stmt_items_counted (item n act) (steps.Middle ∷ []) h = absurd h.0
  stmt_items_counted (item n act) (steps.Close ∷ []) h = absurd h.0
  stmt_items_counted (timed n window b) ss h = items_counted b ss h
  stmt_items_counted (choice n test held other) [] h = absurd h
  stmt_items_counted (choice n test held other) (steps.Item id reads writes event ∷ ss) h = absurd h.0
  stmt_items_counted (choice n test held other) (steps.Middle ∷ ss) h = absurd h.0
  stmt_items_counted (choice n test held other) (steps.Close ∷ ss) h = absurd h.0
  stmt_items_counted (choice n test held other) (steps.Open id reads ∷ ss) h =
      let pieces = two ss (places held) (changes ∷ (places other ++ (closes ∷ []))) h.1 in
      let behind = two pieces.rest (changes ∷ []) (places other ++ (closes ∷ [])) pieces.second in
      let last = two behind.rest (places other) (closes ∷ []) behind.second in
      let first = items_counted held pieces.front pieces.first in
      let middle = one_changes behind.front behind.first in
      let second = items_counted other last.front last.first in
      let end = one_closes last.rest last.second in
      let numbers = length-append (item_numbers held) (item_numbers other) in
      let a = ap items_in pieces.whole ∙ items_in-append pieces.front pieces.rest in
      let b = ap items_in behind.whole ∙ items_in-append behind.front behind.rest in
      let c = ap items_in last.whole ∙ items_in-append last.front last.rest in
      omega arith

-- ---- sets that are alike

kept_alike : (body : Block) (f g : ℕ → Bool) → ((n : ℕ) → f n ≡ g n) → IsKeptSet body f → IsKeptSet body g
kept_alike body f g same h =
    record {
      closed =
          record {
            events = λ n act there e. sym (same n) ∙ h.closed.events n act there e;
            for_items = λ from n v e reach. sym (same from) ∙ h.closed.for_items from n v (same n ∙ e) reach;
            for_tests = λ from n test v e around reach. sym (same from) ∙ h.closed.for_tests from n test v (same n ∙ e) around reach;
          };
      least = λ other closed n e. h.least other closed n (same n ∙ e);
    }

-- ---- the answer

module _ (task : Task) (sound : IsSoundTask task) where
  marks_least : IsKeptSet task.body (marks_of task.body)
  marks_least = record { closed = is_closed task sound; least = λ other closed n h. in_closed task.vars task.body other closed n h }

  -- no item has a number past the items
  none_past : (n : ℕ) → length (item_numbers task.body) ≤ n → marks_of task.body n ≡ false
  none_past n h = by_mark (marks_of task.body n) refl
    where
      by_mark : (b : Bool) → marks_of task.body n ≡ b → marks_of task.body n ≡ false
      by_mark false e = e
      by_mark true e =
          elim (new task.body none n e) [
            | inl before ↦ absurd (true≢false (sym before))
            | inr there ↦
                let within = (numbers_within 0 (length (item_numbers task.body)) n (subst (λ l. In l n) sound.body.numbered.items there)).1 in
                absurd (omega arith)
          ]

  pub kept_set : (ss : List Step) (left : ℕ) (before : Needed) (list : List Bool) (after : Needed) (list' : List Bool) → AreSteps ss (places task.body) →
      IsRow before.row (λ v. false) → before.holds ≡ false → ((n : ℕ) → marked list n ≡ false) → length list ≡ length (item_numbers task.body) →
      IsStart (from_end ss left) → Keeps (from_end ss (length ss)) (from_end ss left) before list after list' → IsKeptSet task.body (marked list')
  kept_set ss left before list after list' are row holds marks long start keeps =
      let w = keeps.went none (record { needed = record { row = row; holds = holds }; marks = λ n less. marks n }) in
      let walk = walked keeping keep Same the_same task.body ss none none are (record { needed = λ v small. refl; holds = refl; marks = λ n. refl }) in
      let is : w.known ≡ walk.known =
      sym (stops keeping (from_end ss left) w.known start)
      ∙ (sym (w.goes.same []) ∙ (ap (λ l. run keeping [] l none) (from_end_all ss) ∙ walk.runs [] []))
      in kept_alike task.body (marks_of task.body) (marked list')
      (λ n.
      elim (cases_lt n (length list')) [
        | inl less ↦ sym (w.is.marks n less ∙ (ap (λ (s : Known). s.marks n) is ∙ walk.related.marks n))
        | inr past ↦
            let same = keeps.long in
            none_past n (omega arith) ∙ sym (past_end list' n past)
      ]) marks_least
