-- The first part and then the rest, as a whole.
use Rattle.std.proofs.Common.{◌≡◌, ℕ, ◌+◌, ◌<◌, Bool, true, false, not, ◌||◌, ◌&&◌, ℤ, pos, List, ◌++◌, map, length, get_or, refl, sym, ap, ◌∙◌, subst, arith, ◌⊎◌, inl, inr}
use Rattle.std.specs.Prelude.{filter}
use Rattle.std.proofs.lemmas.Bool.{true≢false, or_left, or_right}
use Rattle.std.proofs.lemmas.List.{get_or_append_left}
use Rattle.tcel_core.specs.declared.var.Keep.{Keep}
use Rattle.tcel_core.specs.declared.var.Var.{Var}
use Rattle.tcel_core.specs.Cells.{all_words, place, width}
use Rattle.tcel_core.specs.Frames.{is_state}
use Rattle.tcel_core.specs.Kept.{IsKeptSet}
use Rattle.tcel_core.specs.Kinds.{Slicing, reads_inside, writes_inside, is_inside, is_kind_1, is_kind_2, is_kind_3, is_fetched, is_state_variable}
use Rattle.tcel_core.specs.Language.{Block, done, next, Stmt, item, choice, timed}
use Rattle.tcel_core.specs.Meaning.{exec}
use Rattle.tcel_core.specs.Numbering.{item_numbers, if_numbers}
use Rattle.tcel_core.specs.Outcome.{Memory, Occurrence, Outcome}
use Rattle.tcel_core.specs.Parts.{Added, copy_of, saved, truth_of, added, added_variable, number_of, all_variables, inside_number, variables, first_of_block, first_part, fetches, rest_of_block, slicing_of}
use Rattle.tcel_core.specs.Paths.{Point, at_item, at_test, points, point_writes, meets, on_some_path}
use Rattle.tcel_core.specs.Sound.{is_local}
use Rattle.tcel_core.specs.Typing.{IsTyped}
use Rattle.tcel_core.specs.Uses.{act_writes, block_writes}
use Rattle.tcel_core.proofs.MeaningLaws.{exec-joined}
use Rattle.tcel_parts.specs.Rows.{row, row_before, stmt_row}
use Rattle.tcel_parts.specs.SliceLaw.{DoTheSame, PartsMeanTheBody}
use Rattle.tcel_parts.proofs.Alike.{Alike, either, has_place}
use Rattle.tcel_parts.proofs.Context.{needed, wanted, whole, kind_2_writes, kind_3_alone, kind_of_variable}
use Rattle.tcel_parts.proofs.Copies.{Copied, AreApart, copies_do}
use Rattle.tcel_parts.proofs.Distinct.{AreDistinct, numbers_distinct}
use Rattle.tcel_parts.proofs.FirstRuns.{InStep, Same, block_same}
use Rattle.tcel_parts.proofs.Hits.{and_true, and_both}
use Rattle.tcel_parts.proofs.Leaves.{block_leaves}
use Rattle.tcel_parts.proofs.Members.{in_mapped, in_filter, in_filtered, in_numbers}
use Rattle.tcel_parts.proofs.NewVariables.{inside_is, own_renames, one_number, not_own, copy_in, place_own}
use Rattle.tcel_parts.proofs.PartsProper.{first_proper, rest_proper, fetched_is, fetch_wide}
use Rattle.tcel_parts.proofs.PartsWrite.{FirstWrites, own, save, truth, first_writes, rest_writes}
use Rattle.tcel_parts.proofs.RestRuns.{InRest, Follows, block_follows, rest_keeps_kind_1, refuted}
use Rattle.tcel_parts.proofs.Rows.{any_meets}
use Rattle.tcel_parts.proofs.States.{AreNoStates, HoldStates, first_states, same_states}
use Rattle.tcel_parts.proofs.Stores.{at, within as inside_cells}

-- ---- fewer stops

-- a row holds with fewer stops too
before_fewer : (hit stop stop' : Point → Bool) (p : Point) (e e' : Bool) → (stop' p ≡ true → stop p ≡ true) → (e ≡ true → e' ≡ true) → row_before hit stop p e ≡ true → row_before hit stop' p e' ≡ true
before_fewer hit stop stop' p e e' fewer ends h =
    elim (either (hit p) (not (stop p) && e) h) [
      | inl met ↦ or_left (hit p) (not (stop' p) && e') met
      | inr on ↦
          let both = and_both (not (stop p)) e on in
          or_right (hit p) (not (stop' p) && e') (and_true (not (stop' p)) e' (free (stop p) (stop' p) fewer both.0) (ends both.1))
    ]
  where
    free : (a b : Bool) → (b ≡ true → a ≡ true) → not a ≡ true → not b ≡ true
    free a false up h = refl
    free a true up h = absurd (true≢false (sym (subst (λ x. not x ≡ true) (up refl) h)))

mutual
  row_fewer : (hit stop stop' : Point → Bool) → ((p : Point) → stop' p ≡ true → stop p ≡ true) → (b : Block) (e e' : Bool) → (e ≡ true → e' ≡ true) → row hit stop b e ≡ true → row hit stop' b e' ≡ true
  row_fewer hit stop stop' fewer done e e' ends h = ends h
  row_fewer hit stop stop' fewer (next t rest) e e' ends h =
      stmt_row_fewer hit stop stop' fewer t (row hit stop rest e) (row hit stop' rest e') (row_fewer hit stop stop' fewer rest e e' ends) h

  stmt_row_fewer : (hit stop stop' : Point → Bool) → ((p : Point) → stop' p ≡ true → stop p ≡ true) → (t : Stmt) (e e' : Bool) → (e ≡ true → e' ≡ true) → stmt_row hit stop t e ≡ true → stmt_row hit stop' t e' ≡ true
  stmt_row_fewer hit stop stop' fewer (item n act) e e' ends h = before_fewer hit stop stop' (at_item n act) e e' (fewer (at_item n act)) ends h
  stmt_row_fewer hit stop stop' fewer (choice n test held other) e e' ends h =
      before_fewer hit stop stop' (at_test n test held other) (row hit stop held e || row hit stop other e) (row hit stop' held e' || row hit stop' other e') (fewer (at_test n test held other))
      (λ g. lifted (either (row hit stop held e) (row hit stop other e) g) (row_fewer hit stop stop' fewer held e e' ends) (row_fewer hit stop stop' fewer other e e' ends)) h
    where
      lifted : (row hit stop held e ≡ true) ⊎ (row hit stop other e ≡ true) → (row hit stop held e ≡ true → row hit stop' held e' ≡ true) → (row hit stop other e ≡ true → row hit stop' other e' ≡ true) →
          (row hit stop' held e' || row hit stop' other e') ≡ true
      lifted (inl g) a b = or_left (row hit stop' held e') (row hit stop' other e') (a g)
      lifted (inr g) a b = or_right (row hit stop' held e') (row hit stop' other e') (b g)
  stmt_row_fewer hit stop stop' fewer (timed n window body) e e' ends h = row_fewer hit stop stop' fewer body e e' ends h

module _ (s : Slicing) (set : IsKeptSet s.body s.kept) (ins outs : ℕ) (typed : IsTyped (record { vars = s.vars; inputs = ins; outputs = outs }) s.body)
    (items : AreDistinct (item_numbers s.body)) (tests : AreDistinct (if_numbers s.body)) where
  -- what is needed of a copy before the first part is fetched
  needed_fetched : (v : ℕ) → is_kind_3 s v ≡ true → needed s s.body (λ _. false) v ≡ true → is_fetched s v ≡ true
  needed_fetched v kind h =
      and_true (is_kind_3 s v) (on_some_path (meets (reads_inside s v) (writes_inside s v) false) s.body) kind
      (any_meets (reads_inside s v) (writes_inside s v) s.body false
      ∙ row_fewer (reads_inside s v) (λ p. point_writes p v) (writes_inside s v) (λ p w. (and_both (is_inside s p) (point_writes p v) w).1) s.body false false (λ e. e) h)

  fetches_apart : AreApart (all_variables s) (λ v. v) (λ v. number_of s (copy_of v)) (filter (is_fetched s) (variables s))
  fetches_apart =
      record {
        wide = fetch_wide s ins outs;
        sources = λ v w h g. not_own s (copy_of w) v (fetched_is s ins outs v h).0;
        targets = λ v w h g e.
            let a = fetched_is s ins outs v h in
            let b = fetched_is s ins outs w g in
            one_copy v w (one_number s (copy_of v) (copy_of w) (copy_in s v a.0 a.2) (copy_in s w b.0 b.2) e);
      }
    where
      variable_of : Added → ℕ
      variable_of (copy_of v) = v
      variable_of (saved n v) = v
      variable_of (truth_of n) = n

      one_copy : (v w : ℕ) → copy_of v ≡ copy_of w → v ≡ w
      one_copy v w e = ap variable_of e

  own_width : (v i : ℕ) → i < width s.vars v → i < width (all_variables s) v
  own_width v i within = subst (λ n. i < n) ((own_renames s).wide v (has_place s.vars v i within)) within

  -- the first part leaves the task's own variables of kinds 2 and 3
  not_first : (v : ℕ) → v < length s.vars → (is_kind_2 s v ≡ true) ⊎ (is_kind_3 s v ≡ true) → FirstWrites s (points s.body) v → ⊥
  not_first v less kind (own n w act there kept writes is) =
      elim (inside_is s w) [
        | inl c ↦ not_own s (copy_of w) v less (is ∙ c.1)
        | inr o ↦
            elim kind [
              | inl two ↦ true≢false (sym (subst (λ x. act_writes act x ≡ true) (sym (is ∙ o.1)) writes) ∙ kind_2_writes s v n act two there kept)
              | inr three ↦ true≢false (sym (subst (λ x. is_kind_3 s x ≡ true) (is ∙ o.1) three) ∙ o.0)
            ]
      ]
  not_first v less kind (save n w act there kept low live is) = not_own s (saved n w) v less is
  not_first v less kind (truth n test held other there split is) = not_own s (truth_of n) v less is

  module _ (cells others : List ℤ) (inputs : List (List ℤ)) (long : length cells ≡ all_words s.vars) (long' : length (cells ++ others) ≡ all_words (all_variables s)) where
    abbrev before : Memory
    before = record { cells = cells; inputs = inputs }

    abbrev beside : Memory
    beside = record { cells = cells ++ others; inputs = inputs }

    at_start : (v i : ℕ) → i < width s.vars v → at (all_variables s) (cells ++ others) v i ≡ at s.vars cells v i
    at_start v i within =
        let less = has_place s.vars v i within in
        ap (λ n. get_or (cells ++ others) (n + i) (pos 0)) (place_own s.vars (map (added_variable s.vars) (added s)) v (omega arith))
        ∙ get_or_append_left cells others (pos 0) (place s.vars v + i) (inside_cells s.vars cells v i long within)

    abbrev copying : Outcome
    copying = exec (fetches s) (all_variables s) beside

    copied : Copied (all_variables s) (λ v. v) (λ v. number_of s (copy_of v)) (filter (is_fetched s) (variables s)) beside copying
    copied = copies_do (all_variables s) (λ v. v) (λ v. number_of s (copy_of v)) (filter (is_fetched s) (variables s)) fetches_apart beside long'

    -- the first part begins with what it needs
    begins : Alike (InStep s set ins outs (needed s s.body (λ _. false))) s.vars (all_variables s) (inside_number s) cells copying.memory.cells
    begins =
        record {
          same = λ v i in_step within. chosen v i (inside_is s v) (either (needed s s.body (λ _. false) v) (is_kind_1 s v) in_step) within;
          long = long;
          long' = copied.long;
        }
      where
        fetch : (v i : ℕ) → is_kind_3 s v ≡ true → needed s s.body (λ _. false) v ≡ true → i < width s.vars v → at (all_variables s) copying.memory.cells (number_of s (copy_of v)) i ≡ at s.vars cells v i
        fetch v i kind need within =
            let less = has_place s.vars v i within in
            let there = in_filter (is_fetched s) (variables s) v (in_numbers 0 (length s.vars) v (omega arith) (omega arith)) (needed_fetched v kind need) in
            copied.copied v i there (subst (λ n. i < n) (fetch_wide s ins outs v there) (own_width v i within)) ∙ at_start v i within

        chosen : (v i : ℕ) → ((is_kind_3 s v ≡ true) × (inside_number s v ≡ number_of s (copy_of v))) ⊎ ((is_kind_3 s v ≡ false) × (inside_number s v ≡ v)) →
            (needed s s.body (λ _. false) v ≡ true) ⊎ (is_kind_1 s v ≡ true) → i < width s.vars v →
            at s.vars cells v i ≡ at (all_variables s) copying.memory.cells (inside_number s v) i
        chosen v i (inl c) (inl need) within = sym (ap (λ u. at (all_variables s) copying.memory.cells u i) c.1 ∙ fetch v i c.0 need within)
        chosen v i (inl c) (inr one) within = absurd (true≢false (sym one ∙ (kind_3_alone s v c.0).0))
        chosen v i (inr o) _ within =
            sym
            (ap (λ u. at (all_variables s) copying.memory.cells u i) o.1
            ∙ (copied.kept v i (λ w there. not_own s (copy_of w) v (has_place s.vars v i within)) (own_width v i within) ∙ at_start v i within))

    abbrev body_run : Outcome
    body_run = exec s.body s.vars before

    abbrev first_run : Outcome
    first_run = exec (first_of_block s s.body) (all_variables s) copying.memory

    abbrev rest_run : Outcome
    rest_run = exec (rest_of_block s s.body) (all_variables s) first_run.memory

    first_same : Same s set ins outs (λ _. false) body_run first_run
    first_same = block_same s set ins outs s.body (λ _. false) (is_state_variable s.vars) (λ _. false) (whole s set) typed before copying.memory (sym copied.inputs) begins

    rest_begins : Alike (InRest s set ins outs typed items (wanted s s.body (is_state_variable s.vars))) s.vars (all_variables s) (λ v. v) cells first_run.memory.cells
    rest_begins =
        record {
          same = λ v i in_rest within. sym (kept v i (two_or_three v (either (is_kind_2 s v) (is_kind_3 s v && wanted s s.body (is_state_variable s.vars) v) in_rest)) within);
          long = long;
          long' = first_same.cells.long';
        }
      where
        two_or_three : (v : ℕ) → (is_kind_2 s v ≡ true) ⊎ ((is_kind_3 s v && wanted s s.body (is_state_variable s.vars) v) ≡ true) → (is_kind_2 s v ≡ true) ⊎ (is_kind_3 s v ≡ true)
        two_or_three v (inl two) = inl two
        two_or_three v (inr three) = inr (and_both (is_kind_3 s v) (wanted s s.body (is_state_variable s.vars) v) three).0

        kept : (v i : ℕ) → (is_kind_2 s v ≡ true) ⊎ (is_kind_3 s v ≡ true) → i < width s.vars v → at (all_variables s) first_run.memory.cells v i ≡ at s.vars cells v i
        kept v i kind within =
            let less = has_place s.vars v i within in
            (block_leaves (all_variables s) (first_of_block s s.body) (first_proper s ins outs s.body (λ p h. h) typed) copying.memory copied.long).kept v i
            (refuted (block_writes (first_of_block s s.body) v) (λ e. not_first v less kind (first_writes s s.body v e))) (own_width v i within)
            ∙ (copied.kept v i (λ w there. not_own s (copy_of w) v less) (own_width v i within) ∙ at_start v i within)

    rest_same : Follows s set ins outs typed items (is_state_variable s.vars) body_run first_run.memory rest_run
    rest_same =
        block_follows s set ins outs typed items s.body (λ _. false) (is_state_variable s.vars) (λ _. false) (whole s set) typed items tests before copying.memory first_run.memory (sym copied.inputs) begins rest_begins
        (record { kind_1 = λ v i k ends within. refl; saves = λ n v i act there kept less live within. refl; truths = λ n test held other there split. refl })

    -- each state variable has the body's words
    state_words_same : (v i : ℕ) → is_state_variable s.vars v ≡ true → i < width s.vars v → at s.vars body_run.memory.cells v i ≡ at (all_variables s) rest_run.memory.cells v i
    state_words_same v i state within =
        elim (kind_of_variable s v) [
          | inl one ↦
              first_same.cells.same v i one within
              ∙ (ap (λ u. at (all_variables s) first_run.memory.cells u i) (own_number one)
              ∙ sym
              ((block_leaves (all_variables s) (rest_of_block s s.body) (rest_proper s ins outs s.body (λ p h. h) typed) first_run.memory first_same.cells.long').kept v i
              (refuted (block_writes (rest_of_block s s.body) v) (λ e. rest_keeps_kind_1 s set ins outs typed items (points s.body) (λ p h. h) v one (rest_writes s s.body v e))) (own_width v i within)))
          | inr more ↦
              elim more [
                | inl two ↦ rest_same.cells.same v i (or_left (is_kind_2 s v) (is_kind_3 s v && is_state_variable s.vars v) two.1) within
                | inr three ↦ rest_same.cells.same v i (or_right (is_kind_2 s v) (is_kind_3 s v && is_state_variable s.vars v) (and_true (is_kind_3 s v) (is_state_variable s.vars v) three.2 state)) within
              ]
        ]
      where
        own_number : is_kind_1 s v ≡ true → inside_number s v ≡ v
        own_number k =
            elim (inside_is s v) [
              | inl c ↦ absurd (true≢false (sym k ∙ (kind_3_alone s v c.0).0))
              | inr o ↦ o.1
            ]

    no_added_state : AreNoStates (map (added_variable s.vars) (added s))
    no_added_state x h = let r = in_mapped (added_variable s.vars) (added s) x h in subst (λ (y : Var). is_state y.keep ≡ false) r.2 refl

    first_is : exec (first_part s) (all_variables s) beside ≡ first_run
    first_is =
        exec-joined (fetches s) (first_of_block s s.body) (all_variables s) beside
        ∙ ap (λ (es : List Occurrence). let r : Outcome = record { memory = first_run.memory; events = es ++ first_run.events } in r) copied.events

    pub do_the_same : HoldStates s.vars → DoTheSame s.vars (all_variables s) body_run (exec (first_part s) (all_variables s) beside) (exec (rest_of_block s s.body) (all_variables s) (exec (first_part s) (all_variables s) beside).memory)
    do_the_same states =
        subst (λ (o : Outcome). DoTheSame s.vars (all_variables s) body_run o (exec (rest_of_block s s.body) (all_variables s) o.memory)) (sym first_is)
        (record {
          events = sym first_same.events;
          silent = rest_same.events;
          inputs = rest_same.inputs ∙ sym (first_same.inputs refl);
          states =
              same_states s.vars (map (added_variable s.vars) (added s)) body_run.memory.cells rest_run.memory.cells states no_added_state first_same.cells.long rest_same.cells.long'
              (λ v i state less within. state_words_same v i state within);
        })

-- ---- a checked task

local_is_no_state : (keep : Keep) → is_local keep ≡ true → is_state keep ≡ false
local_is_no_state Keep.State h = absurd (true≢false (sym h))
local_is_no_state Keep.Local h = refl
local_is_no_state Keep.Temp h = refl

pub parts_mean_the_body : PartsMeanTheBody
parts_mean_the_body task kept sound set cells others inputs long long' =
    let s = slicing_of task kept in
    let body = sound.body in
    do_the_same s set (length task.inputs) (length task.outputs) body.typed (subst AreDistinct (sym body.numbered.items) (numbers_distinct 0 (length (item_numbers task.body))))
    (subst AreDistinct (sym body.numbered.ifs) (numbers_distinct 0 (length (if_numbers task.body)))) cells others inputs long long'
    (subst HoldStates (sym sound.declarations.order)
    (first_states (filter (λ (v : Var). is_state v.keep) task.vars) (filter (λ (v : Var). is_local v.keep) task.vars)
    (λ x h. (in_filtered (λ (v : Var). is_state v.keep) task.vars x h).1) (λ x h. local_is_no_state x.keep (in_filtered (λ (v : Var). is_local v.keep) task.vars x h).1)))
