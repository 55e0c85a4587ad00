-- What the walks find of a whole body: the kinds of its variables, what is fetched, what items are live for, which ifs are split.
use Rattle.std.proofs.Common.{◌≡◌, ℕ, zero, suc, ◌+◌, ◌<◌, ◌≤◌, Bool, true, false, not, ◌&&◌, ◌||◌, ◌==◌, List, [], ◌∷◌, length, length-append, get_or, replicate, refl, sym, ap, ◌∙◌, subst, arith, inl, inr, eq-eqb, eqb-true}
use Rattle.std.specs.Prelude.{slice_index_or}
use Rattle.std.specs.List.{list_any}
use Rattle.std.proofs.Math.Bool.{or-false}
use Rattle.std.proofs.lemmas.Bool.{true≢false, cases_lt}
use Rattle.tcel_core.specs.declared.row.Row.{Row}
use Rattle.tcel_core.specs.declared.var.Var.{Var}
use Rattle.tcel_core.specs.Frames.{is_state}
use Rattle.tcel_core.specs.Kept.{is_item}
use Rattle.tcel_core.specs.Kinds.{Slicing, reads_inside, reads_outside, writes_inside, writes_outside, is_kind_3, is_state_variable, is_live, is_fetched}
use Rattle.tcel_core.specs.Language.{Block, done, next, Stmt, item, choice, timed, Task}
use Rattle.tcel_core.specs.Limits.{nodes, stmt_nodes}
use Rattle.tcel_core.specs.Numbering.{item_numbers, if_numbers, stmt_if_numbers}
use Rattle.tcel_core.specs.Parts.{is_split}
use Rattle.tcel_core.specs.Paths.{Point, at_item, at_test, points, point_writes, behind}
use Rattle.tcel_core.specs.Rows.{stands_in}
use Rattle.tcel_core.specs.Sound.{IsSoundTask}
use Rattle.tcel_core.specs.Typing.{Names}
use Rattle.tcel_core.specs.Uses.{act_writes}
use Rattle.tcel_flow.specs.Shape.{IsRow}
use Rattle.tcel_flow.proofs.Reached.{few_variables}
use Rattle.tcel_parts.specs.Rows.{row}
use Rattle.tcel_parts.proofs.Distinct.{item_numbered, test_numbered}
use Rattle.tcel_parts.proofs.Hits.{and_both}
use Rattle.tcel_parts.proofs.Members.{In, in_from_any, numbers_within}
use Rattle.tcel_parts.proofs.OwnNames.{point_behind, point_typed, act_own}
use Rattle.tcel_parts.proofs.Rows.{any_meets, any_behind}
use Rattle.tcel_rename.specs.declared.kinds.Found.{Found}
use Rattle.tcel_rename.specs.declared.splits.Sides.{Sides}
use Rattle.tcel_rename.specs.Lives.{FindsLiveInBlock, stands_at, live_row}
use Rattle.tcel_rename.specs.Sets.{late, FindsInBlock, by_list}
use Rattle.tcel_rename.specs.Splits.{AreLive, FindsSides, is_split_test}
use Rattle.tcel_rename.proofs.FindingSplits.{none_stands}

-- ---- states

state_at : (vars : List Var) (i : ℕ) (x : Var) → i < length vars → x ≡ get_or vars i x → is_state_variable vars i ≡ is_state x.keep
state_at [] i x less is = absurd (omega arith)
state_at (y ∷ vars) zero x less is = ap (λ (z : Var). is_state z.keep) (sym is)
state_at (y ∷ vars) (suc i) x less is = state_at vars i x (omega arith) is

pub no_state : (vars : List Var) (v : ℕ) → length vars ≤ v → is_state_variable vars v ≡ false
no_state [] v h = refl
no_state (y ∷ vars) zero h = absurd (omega arith)
no_state (y ∷ vars) (suc v) h = no_state vars v (omega arith)

differ : (a b : ℕ) → (a ≡ b → ⊥) → (a == b) ≡ false
differ a b h = by_test (a == b) refl
  where
    by_test : (t : Bool) → (a == b) ≡ t → (a == b) ≡ false
    by_test false e = e
    by_test true e = absurd (h (eqb-true a b e))

and_none : (a b : Bool) → b ≡ false → (a && b) ≡ false
and_none true b h = h
and_none false b h = refl

and_all : (a b : Bool) → b ≡ true → (a && b) ≡ a
and_all true b h = h
and_all false b h = refl

module _ (vars : List Var) (i : ℕ) (x : Var) (old new : ℕ → Bool) (less : i < length vars) (is : x ≡ get_or vars i x) (so : Bool) (state : so ≡ is_state x.keep)
    (step : (v : ℕ) → v < 256 → new v ≡ (old v || (so && (i == v))))
    (before : (v : ℕ) → v < 256 → v < i → old v ≡ is_state_variable vars v) (behind_it : (v : ℕ) → v < 256 → i ≤ v → old v ≡ false) where
  pub states_before : (v : ℕ) → v < 256 → v < i + 1 → new v ≡ is_state_variable vars v
  states_before v small h =
      elim (cases_lt v i) [
        | inl earlier ↦
            step v small
            ∙ (ap (λ b. old v || b) (and_none so (i == v) (differ i v (λ e. absurd (omega arith)))) ∙ (or-false (old v) ∙ before v small earlier))
        | inr later ↦
            let same : i ≡ v = omega arith in
            step v small
            ∙ (ap (λ b. b || (so && (i == v))) (behind_it v small (omega arith))
            ∙ (and_all so (i == v) (eq-eqb i v same) ∙ (state ∙ (sym (state_at vars i x less is) ∙ ap (is_state_variable vars) same))))
      ]

  pub states_behind : (v : ℕ) → v < 256 → i + 1 ≤ v → new v ≡ false
  states_behind v small h =
      step v small
      ∙ (ap (λ b. b || (so && (i == v))) (behind_it v small (omega arith)) ∙ and_none so (i == v) (differ i v (λ e. absurd (omega arith))))

-- ---- kinds

third_is : (o l i : Bool) → ((l || o) && i) ≡ (not (not o && not l) && not (not (not o && not l) && not i))
third_is true true true = refl
third_is true true false = refl
third_is true false true = refl
third_is true false false = refl
third_is false true true = refl
third_is false true false = refl
third_is false false i = refl

late_none : (here such : Point → Bool) (ps : List Point) → late here such ps false ≡ behind here (list_any such) ps
late_none here such [] = refl
late_none here such (p ∷ ps) =
    ap (λ b. (here p && b) || late here such ps false) (or-false (list_any such ps)) ∙ ap (λ b. (here p && list_any such ps) || b) (late_none here such ps)

module _ (s : Slicing) (none found : Found) (v : ℕ) (small : v < 256) (fetched : stands_in none.fetched v ≡ false) (outside : stands_in none.outside v ≡ false)
    (inside : stands_in none.inside v ≡ false) (read_before : stands_in none.late v ≡ false) (f : FindsInBlock s s.body none found) where
  pub third_found : ((stands_in found.late v || stands_in found.outside v) && stands_in found.inside v) ≡ is_kind_3 s v
  third_found =
      let o : stands_in found.outside v ≡ list_any (writes_outside s v) (points s.body) = f.outside v small ∙ (ap (λ b. list_any (writes_outside s v) (points s.body) || b) outside ∙ or-false _) in
      let i : stands_in found.inside v ≡ list_any (writes_inside s v) (points s.body) = f.inside v small ∙ (ap (λ b. list_any (writes_inside s v) (points s.body) || b) inside ∙ or-false _) in
      let l : stands_in found.late v ≡ behind (reads_outside s v) (list_any (writes_inside s v)) (points s.body) =
      f.late v small
      ∙ (ap (λ b. late (reads_outside s v) (writes_inside s v) (points s.body) (stands_in none.inside v) || b) read_before
      ∙ (or-false _ ∙ (ap (late (reads_outside s v) (writes_inside s v) (points s.body)) inside ∙ late_none (reads_outside s v) (writes_inside s v) (points s.body))))
      in
      ap (λ b. (b || stands_in found.outside v) && stands_in found.inside v) l
      ∙ (ap (λ b. (behind (reads_outside s v) (list_any (writes_inside s v)) (points s.body) || b) && stands_in found.inside v) o
      ∙ (ap (λ b. (behind (reads_outside s v) (list_any (writes_inside s v)) (points s.body) || list_any (writes_outside s v) (points s.body)) && b) i
      ∙ third_is (list_any (writes_outside s v) (points s.body)) (behind (reads_outside s v) (list_any (writes_inside s v)) (points s.body)) (list_any (writes_inside s v) (points s.body))))

  pub fetched_found : (third : Bool) → third ≡ is_kind_3 s v → (third && stands_in found.fetched v) ≡ is_fetched s v
  fetched_found third is =
      ap (λ b. b && stands_in found.fetched v) is
      ∙ ap (λ b. is_kind_3 s v && b)
      (f.fetched v small
      ∙ (ap (λ e. row (reads_inside s v) (writes_inside s v) s.body e) fetched ∙ sym (any_meets (reads_inside s v) (writes_inside s v) s.body false)))

-- ---- what items are live for

rows_empty : (e : Row) (count n v : ℕ) → stands_in e v ≡ false → stands_at (replicate count e) n v ≡ false
rows_empty e zero n v h = none_stands [] n v (omega arith)
rows_empty e (suc count) zero v h = h
rows_empty e (suc count) (suc n) v h = rows_empty e count n v h

module _ (task : Task) (sound : IsSoundTask task) (list : List Bool) where
  abbrev s : Slicing
  s = by_list task.vars task.body list

  abbrev here : ℕ → ℕ → Point → Bool
  here n v p = is_item n p && writes_inside s v p

  live_is : (n v : ℕ) → is_live s n v ≡ (is_kind_3 s v && live_row s task.body n v (is_state_variable task.vars v))
  live_is n v = ap (λ b. is_kind_3 s v && b) (any_behind (here n v) (reads_outside s v) (λ p. point_writes p v) task.body (is_state_variable task.vars v))

  -- the item that is live
  pub live_item : (n v : ℕ) → is_live s n v ≡ true → (v < length task.vars) × (n < length (item_numbers task.body)) × (s.kept n ≡ true)
  live_item n v h =
      let r = point_behind (here n v) (reads_outside s v) (λ p. point_writes p v) task.body (is_state_variable task.vars v) (and_both _ _ (sym (live_is n v) ∙ h)).1 in
      by_point r.0 r.1 r.2
    where
      by_point : (p : Point) → In (points task.body) p → here n v p ≡ true → (v < length task.vars) × (n < length (item_numbers task.body)) × (s.kept n ≡ true)
      by_point (at_item k act) there e =
          let both = and_both (k == n) (s.kept k && act_writes act v) e in
          let names : Names = record { vars = task.vars; inputs = length task.inputs; outputs = length task.outputs } in
          let numbered = subst (λ l. In l k) sound.body.numbered.items (item_numbered task.body k act there) in
          let within = (numbers_within 0 (length (item_numbers task.body)) k numbered).1 in
          let same = eqb-true k n both.0 in
          (act_own names act v (point_typed names task.body (at_item k act) sound.body.typed there) (and_both (s.kept k) (act_writes act v) both.1).1, omega arith, subst (λ j. s.kept j ≡ true) same (and_both (s.kept k) (act_writes act v) both.1).0)
      by_point (at_test k test held other) there e = absurd (true≢false (sym e))

  pub lives_found : (third wanted after : Row) (e : Row) (rows : List Row) → IsRow third (is_kind_3 s) → IsRow wanted (is_state_variable task.vars) → ((v : ℕ) → stands_in e v ≡ false) →
      FindsLiveInBlock s third task.body wanted (replicate (length (item_numbers task.body)) e) after rows → length rows ≡ length (item_numbers task.body) → AreLive s rows
  lives_found third wanted after e rows is_third is_wanted empty f long =
      record {
        live = λ n v small.
            elim (cases_lt n (length (item_numbers task.body))) [
              | inl less ↦
                  f.live n v (subst (λ k. n < k) (f.long ∙ refl) (subst (λ k. n < k) (sym long) less)) small
                  ∙ (ap (λ b. b || (stands_in third v && live_row s task.body n v (stands_in wanted v))) (rows_empty e (length (item_numbers task.body)) n v (empty v))
                  ∙ (ap (λ b. b && live_row s task.body n v (stands_in wanted v)) (is_third v small)
                  ∙ (ap (λ b. is_kind_3 s v && live_row s task.body n v b) (is_wanted v small) ∙ sym (live_is n v))))
              | inr past ↦ none_stands rows n v (omega arith) ∙ sym (none_live n v past (is_live s n v) refl)
            ];
        own = λ n v h. (live_item n v h).0;
        few = few_variables task sound;
      }
    where
      none_live : (n v : ℕ) → length (item_numbers task.body) ≤ n → (b : Bool) → is_live s n v ≡ b → is_live s n v ≡ false
      none_live n v past false g = g
      none_live n v past true g = let within = (live_item n v g).1 in absurd (omega arith)

  -- ---- ifs

  mutual
    pub few_ifs : (b : Block) → length (if_numbers b) ≤ nodes b
    few_ifs done = omega arith
    few_ifs (next t rest) = let a = few_stmt_ifs t in let b = few_ifs rest in let c = length-append (stmt_if_numbers t) (if_numbers rest) in omega arith

    few_stmt_ifs : (t : Stmt) → length (stmt_if_numbers t) ≤ stmt_nodes t
    few_stmt_ifs (item n act) = omega arith
    few_stmt_ifs (choice n test held other) = let a = few_ifs held in let b = few_ifs other in let c = length-append (if_numbers held) (if_numbers other) in omega arith
    few_stmt_ifs (timed n window body) = let a = few_ifs body in omega arith

  past_end : (xs : List Bool) (n : ℕ) → length xs ≤ n → slice_index_or xs n false ≡ false
  past_end [] n h = refl
  past_end (x ∷ xs) zero h = absurd (omega arith)
  past_end (x ∷ xs) (suc n) h = past_end xs n (omega arith)

  none_marked : (count n : ℕ) → slice_index_or (replicate count false) n false ≡ false
  none_marked zero n = refl
  none_marked (suc count) zero = refl
  none_marked (suc count) (suc n) = none_marked count n

  pub split_number : (n : ℕ) → list_any (is_split_test s n) (points task.body) ≡ true → n < length (if_numbers task.body)
  split_number n h = let r = in_from_any (is_split_test s n) (points task.body) h in by_point r.0 r.1 r.2
    where
      by_point : (p : Point) → In (points task.body) p → is_split_test s n p ≡ true → n < length (if_numbers task.body)
      by_point (at_item k act) there e = absurd (true≢false (sym e))
      by_point (at_test k test held other) there e =
          let numbered = subst (λ l. In l k) sound.body.numbered.ifs (test_numbered task.body k test held other there) in
          let within = (numbers_within 0 (length (if_numbers task.body)) k numbered).1 in
          let same = eqb-true k n (and_both (k == n) (is_split s held other) e).0 in
          omega arith

  pub most_ifs : length (if_numbers task.body) ≤ 4000
  most_ifs = let few = few_ifs task.body in let most = sound.body.nodes in omega arith

  pub splits_found : (sides : Sides) (marks : List Bool) → FindsSides s (points task.body) (replicate 4000 false) sides marks → length marks ≡ 4000 →
      (n : ℕ) → slice_index_or marks n false ≡ list_any (is_split_test s n) (points task.body)
  splits_found sides marks f long n =
      elim (cases_lt n 4000) [
        | inl less ↦ f.splits n (subst (λ k. n < k) (f.long ∙ refl) (subst (λ k. n < k) (sym long) less)) ∙ ap (λ b. b || list_any (is_split_test s n) (points task.body)) (none_marked 4000 n)
        | inr past ↦ past_end marks n (omega arith) ∙ sym (none_split (list_any (is_split_test s n) (points task.body)) refl past)
      ]
    where
      none_split : (b : Bool) → list_any (is_split_test s n) (points task.body) ≡ b → 4000 ≤ n → list_any (is_split_test s n) (points task.body) ≡ false
      none_split false g past = g
      none_split true g past = let within = split_number n g in let most = most_ifs in absurd (omega arith)
