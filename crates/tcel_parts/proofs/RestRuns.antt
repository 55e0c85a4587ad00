-- The rest does what is left of the body: it gives the task's own variables their values, with what the first part handed on.
use Rattle.std.proofs.Common.{◌≡◌, ◌≢◌, ℕ, ◌<◌, Bool, true, false, cond, not, ◌||◌, ◌&&◌, ℤ, List, [], ◌∷◌, ◌++◌, length, refl, sym, ap, ◌∙◌, subst, arith, ◌⊎◌, inl, inr}
use Rattle.std.specs.List.{list_any}
use Rattle.std.proofs.lemmas.Bool.{true≢false, or_left, or_right, cond-true, cond-false}
use Rattle.tcel_num.specs.Arithmetic.{holds}
use Rattle.tcel_core.specs.declared.var.Var.{Var}
use Rattle.tcel_core.specs.Cells.{all_words, width}
use Rattle.tcel_core.specs.Kept.{IsKeptSet}
use Rattle.tcel_core.specs.Kinds.{Slicing, holds_kept, reads_inside, reads_outside, writes_inside, is_kind_1, is_kind_2, is_kind_3, is_live}
use Rattle.tcel_core.specs.Language.{Expr, variable, Block, done, next, Window, Stmt, item, choice, timed, Act}
use Rattle.tcel_core.specs.Meaning.{exec, exec_stmt, exec_act, value}
use Rattle.tcel_core.specs.Numbering.{item_numbers, stmt_item_numbers, if_numbers, stmt_if_numbers}
use Rattle.tcel_core.specs.Outcome.{Memory, Outcome}
use Rattle.tcel_core.specs.Parts.{Added, copy_of, saved, truth_of, has_rest, is_split, number_of, all_variables, inside_number, saves, restores, variables, live_variables, first_of_block, first_of_stmt, rest_of_block, rest_of_stmt, renamed_expr, renamed_act}
use Rattle.tcel_core.specs.Paths.{Point, at_item, at_test, points, stmt_points, point_writes}
use Rattle.tcel_core.specs.Typing.{IsTyped, StmtIsTyped, ActIsTyped, bool}
use Rattle.tcel_core.specs.Uses.{block_writes, act_reads, act_writes, expr_reads}
use Rattle.tcel_core.proofs.MeaningLaws.{exec-joined}
use Rattle.tcel_parts.specs.Rows.{stmt_row}
use Rattle.tcel_parts.proofs.Alike.{Alike, DoAlike, alike_fewer, either, has_place, act_alike, value_alike}
use Rattle.tcel_parts.proofs.Context.{InBlock, InStmt, needed, wanted, ahead, head, behind_head, then_branch, else_branch, live_here, settled_item, settled_test, kind_1_writes, kind_2_writes, kind_3_alone, kind_of_variable, no_event}
use Rattle.tcel_parts.proofs.Copies.{AreApart, copies_do}
use Rattle.tcel_parts.proofs.Distinct.{AreDistinct, split, item_numbered, stmt_item_numbered, test_numbered, stmt_test_numbered}
use Rattle.tcel_parts.proofs.Empty.{alone, first_done, rest_done, first_choice, rest_choice, rest_test, tested}
use Rattle.tcel_parts.proofs.FirstRuns.{InStep, stmt_same, kept_truth, tested_inputs, saved_behind, inside_apart, copy_not_saved, copy_not_truth, saved_not_truth, saved_item, truth_test}
use Rattle.tcel_parts.proofs.Hits.{and_true, and_both}
use Rattle.tcel_parts.proofs.Leaves.{Leaves, act_leaves, act_quiet, block_leaves, neither}
use Rattle.tcel_parts.proofs.Members.{In, in_left, in_right, any_from_in, in_filter, in_numbers}
use Rattle.tcel_parts.proofs.NewVariables.{width_added, width_saved, inside_is, inside_renames, own_renames, one_number, not_own, saved_in, truth_in}
use Rattle.tcel_parts.proofs.PartsProper.{act_proper, own_act, own_expr, first_proper, stmt_rest_proper, restore_wide, live_kind}
use Rattle.tcel_parts.proofs.PartsWrite.{FirstWrites, own, save, truth, first_writes, RestWrites, other_item, restore, stmt_rest_writes, live_is}
use Rattle.tcel_parts.proofs.OwnNames.{act_own, point_typed, live_writes}
use Rattle.tcel_parts.proofs.Stores.{at, word_at, at_set_same}

-- what isn't so
pub refuted : (b : Bool) → (b ≡ true → ⊥) → b ≡ false
refuted true h = absurd (h refl)
refuted false h = refl

module _ (s : Slicing) (set : IsKeptSet s.body s.kept) (ins outs : ℕ) (typed_body : IsTyped (record { vars = s.vars; inputs = ins; outputs = outs }) s.body) (distinct : AreDistinct (item_numbers s.body)) where
  -- what the rest has as the body has it: kind 2, and what is wanted of kind 3
  abbrev pub InRest : (ℕ → Bool) → ℕ → Bool
  InRest X v = is_kind_2 s v || (is_kind_3 s v && X v)

  -- what the first part handed on: the last values of kind 1, saved values, and truths of tests
  pub record Handed (ps : List Point) (W : ℕ → Bool) (first rest : List ℤ) : Type 0 where
    pub kind_1 : (v i : ℕ) → is_kind_1 s v ≡ true → W v ≡ false → i < width s.vars v → at (all_variables s) first v i ≡ at (all_variables s) rest v i
    pub saves : (n v i : ℕ) (act : Act) → In ps (at_item n act) → s.kept n ≡ true → v < length s.vars → is_live s n v ≡ true → i < width s.vars v →
        at (all_variables s) first (number_of s (saved n v)) i ≡ at (all_variables s) rest (number_of s (saved n v)) i
    pub truths : (n : ℕ) (test : Expr) (held other : Block) → In ps (at_test n test held other) → is_split s held other ≡ true →
        at (all_variables s) first (number_of s (truth_of n)) 0 ≡ at (all_variables s) rest (number_of s (truth_of n)) 0

  -- the rest makes no event, leaves the inputs, and gives the variables their values
  pub record Follows (X : ℕ → Bool) (o : Outcome) (r : Memory) (o' : Outcome) : Type 0 where
    pub events : o'.events ≡ []
    pub inputs : o'.memory.inputs ≡ r.inputs
    pub cells : Alike (InRest X) s.vars (all_variables s) (λ v. v) o.memory.cells o'.memory.cells

  own_width : (v i : ℕ) → i < width s.vars v → i < width (all_variables s) v
  own_width v i within = subst (λ n. i < n) ((own_renames s).wide v (has_place s.vars v i within)) within

  saved_width : (n v i : ℕ) (act : Act) → In (points s.body) (at_item n act) → s.kept n ≡ true → v < length s.vars → is_live s n v ≡ true → i < width s.vars v → i < width (all_variables s) (number_of s (saved n v))
  saved_width n v i act there kept less live within = subst (λ b. i < b) (width_saved s n v act there kept less live) within

  truth_width : (n : ℕ) (test : Expr) (held other : Block) → In (points s.body) (at_test n test held other) → is_split s held other ≡ true → 0 < width (all_variables s) (number_of s (truth_of n))
  truth_width n test held other there split = let one = width_added s (truth_of n) (truth_in s n test held other there split) in omega arith

  item_typed : (n : ℕ) (act : Act) → In (points s.body) (at_item n act) → ActIsTyped (record { vars = s.vars; inputs = ins; outputs = outs }) act
  item_typed n act h = point_typed (record { vars = s.vars; inputs = ins; outputs = outs }) s.body (at_item n act) typed_body h

  -- ---- what a piece of the first part leaves

  module _ (ps : List Point) (inside_body : (p : Point) → In ps p → In (points s.body) p) where
    -- a variable of kind 1 that no item of it writes
    keeps_kind_1 : (v : ℕ) → v < length s.vars → is_kind_1 s v ≡ true → list_any (writes_inside s v) ps ≡ false → FirstWrites s ps v → ⊥
    keeps_kind_1 v less k none (own n w act there kept writes is) =
        elim (inside_is s w) [
          | inl c ↦ not_own s (copy_of w) v less (is ∙ c.1)
          | inr o ↦
              true≢false
              (sym (any_from_in (writes_inside s v) ps (at_item n act) there (and_true (s.kept n) (act_writes act v) kept (subst (λ x. act_writes act x ≡ true) (sym (is ∙ o.1)) writes))) ∙ none)
        ]
    keeps_kind_1 v less k none (save n w act there kept low live is) = not_own s (saved n w) v less is
    keeps_kind_1 v less k none (truth n test held other there split is) = not_own s (truth_of n) v less is

    -- a value saved behind another item
    keeps_saved : (n v : ℕ) (act : Act) → In (points s.body) (at_item n act) → s.kept n ≡ true → v < length s.vars → is_live s n v ≡ true → ((a : Act) → In ps (at_item n a) → ⊥) →
        FirstWrites s ps (number_of s (saved n v)) → ⊥
    keeps_saved n v act there kept less live out (own m w a where_ k writes is) =
        inside_apart s w (saved n v) (act_own (record { vars = s.vars; inputs = ins; outputs = outs }) a w (item_typed m a (inside_body (at_item m a) where_)) writes) (saved_in s n v act there kept less live)
        (λ x. copy_not_saved x n v) (sym is)
    keeps_saved n v act there kept less live out (save m w a where_ k low l is) =
        let same = saved_item n v m w (one_number s (saved n v) (saved m w) (saved_in s n v act there kept less live) (saved_in s m w a (inside_body (at_item m a) where_) k low l) is) in
        out a (subst (λ x. In ps (at_item x a)) (sym same) where_)
    keeps_saved n v act there kept less live out (truth m test held other where_ split is) =
        saved_not_truth n v m (one_number s (saved n v) (truth_of m) (saved_in s n v act there kept less live) (truth_in s m test held other (inside_body (at_test m test held other) where_) split) is)

    -- the truth of another test
    keeps_truth : (n : ℕ) (test : Expr) (held other : Block) → In (points s.body) (at_test n test held other) → is_split s held other ≡ true →
        ((t : Expr) (h o : Block) → In ps (at_test n t h o) → ⊥) → FirstWrites s ps (number_of s (truth_of n)) → ⊥
    keeps_truth n test held other there split out (own m w a where_ k writes is) =
        inside_apart s w (truth_of n) (act_own (record { vars = s.vars; inputs = ins; outputs = outs }) a w (item_typed m a (inside_body (at_item m a) where_)) writes) (truth_in s n test held other there split)
        (λ x. copy_not_truth x n) (sym is)
    keeps_truth n test held other there split out (save m w a where_ k low l is) =
        saved_not_truth m w n (one_number s (saved m w) (truth_of n) (saved_in s m w a (inside_body (at_item m a) where_) k low l) (truth_in s n test held other there split) (sym is))
    keeps_truth n test held other there split out (truth m t h o where_ sp is) =
        let same = truth_test n m (one_number s (truth_of n) (truth_of m) (truth_in s n test held other there split) (truth_in s m t h o (inside_body (at_test m t h o) where_) sp) is) in
        out t h o (subst (λ x. In ps (at_test x t h o)) (sym same) where_)

    -- ---- what a piece of the rest leaves

    pub rest_keeps_kind_1 : (v : ℕ) → is_kind_1 s v ≡ true → RestWrites s ps v → ⊥
    rest_keeps_kind_1 v k (other_item n act there out writes) = true≢false (sym writes ∙ kind_1_writes s v n act k (inside_body (at_item n act) there) out)
    rest_keeps_kind_1 v k (restore n act there kept less live) = true≢false (sym k ∙ (kind_3_alone s v (live_kind s ins outs n v live)).0)

    rest_keeps_added : (a : Added) → RestWrites s ps (number_of s a) → ⊥
    rest_keeps_added a (other_item n act there out writes) =
        let less = act_own (record { vars = s.vars; inputs = ins; outputs = outs }) act (number_of s a) (item_typed n act (inside_body (at_item n act) there)) writes in
        not_own s a (number_of s a) less refl
    rest_keeps_added a (restore n act there kept less live) = not_own s a (number_of s a) less refl

    -- what was handed on is there behind a piece of the rest
    still_handed : (qs : List Point) (W : ℕ → Bool) (first before after : List ℤ) (w : ℕ → Bool) → ((p : Point) → In qs p → In (points s.body) p) →
        ((u : ℕ) → w u ≡ true → RestWrites s ps u) → Leaves (all_variables s) w before after → Handed qs W first before → Handed qs W first after
    still_handed qs W first before after w in_body writes l h =
        record {
          kind_1 = λ v i k ends within.
              h.kind_1 v i k ends within ∙ sym (l.kept v i (refuted (w v) (λ e. rest_keeps_kind_1 v k (writes v e))) (own_width v i within));
          saves = λ n v i act there kept less live within.
              h.saves n v i act there kept less live within
              ∙ sym (l.kept (number_of s (saved n v)) i (refuted (w (number_of s (saved n v))) (λ e. rest_keeps_added (saved n v) (writes (number_of s (saved n v)) e))) (saved_width n v i act (in_body (at_item n act) there) kept less live within));
          truths = λ n test held other there split.
              h.truths n test held other there split
              ∙ sym (l.kept (number_of s (truth_of n)) 0 (refuted (w (number_of s (truth_of n))) (λ e. rest_keeps_added (truth_of n) (writes (number_of s (truth_of n)) e))) (truth_width n test held other (in_body (at_test n test held other) there) split));
        }

  -- what is handed on behind the whole is handed on behind its front
  front_handed : (ps qs : List Point) (W : ℕ → Bool) (before after rest : List ℤ) (w : ℕ → Bool) → ((p : Point) → In ps p → In (points s.body) p) → ((p : Point) → In qs p → In (points s.body) p) →
      ((n : ℕ) (x y : Act) → In ps (at_item n x) → In qs (at_item n y) → ⊥) →
      ((n : ℕ) (t t' : Expr) (h h' o o' : Block) → In ps (at_test n t h o) → In qs (at_test n t' h' o') → ⊥) →
      ((u : ℕ) → w u ≡ true → FirstWrites s qs u) → Leaves (all_variables s) w before after → Handed (ps ++ qs) W after rest → Handed ps (ahead s qs W) before rest
  front_handed ps qs W before after rest w in_ps in_qs items tests writes l h =
      record {
        kind_1 = λ v i k ends within.
            let both = neither (list_any (writes_inside s v) qs) (W v) ends in
            sym (l.kept v i (refuted (w v) (λ e. keeps_kind_1 qs in_qs v (has_place s.vars v i within) k both.0 (writes v e))) (own_width v i within)) ∙ h.kind_1 v i k both.1 within;
        saves = λ n v i act there kept less live within.
            sym
            (l.kept (number_of s (saved n v)) i
            (refuted (w (number_of s (saved n v))) (λ e. keeps_saved qs in_qs n v act (in_ps (at_item n act) there) kept less live (λ a g. items n act a there g) (writes (number_of s (saved n v)) e)))
            (saved_width n v i act (in_ps (at_item n act) there) kept less live within))
            ∙ h.saves n v i act (in_left ps qs (at_item n act) there) kept less live within;
        truths = λ n test held other there split.
            sym
            (l.kept (number_of s (truth_of n)) 0
            (refuted (w (number_of s (truth_of n))) (λ e. keeps_truth qs in_qs n test held other (in_ps (at_test n test held other) there) split (λ t g o k. tests n test t held g other o there k) (writes (number_of s (truth_of n)) e)))
            (truth_width n test held other (in_ps (at_test n test held other) there) split))
            ∙ h.truths n test held other (in_left ps qs (at_test n test held other) there) split;
      }

  -- and behind its back
  back_handed : (ps qs : List Point) (W : ℕ → Bool) (first rest : List ℤ) → Handed (ps ++ qs) W first rest → Handed qs W first rest
  back_handed ps qs W first rest h =
      record {
        kind_1 = h.kind_1;
        saves = λ n v i act there kept less live within. h.saves n v i act (in_right ps qs (at_item n act) there) kept less live within;
        truths = λ n test held other there split. h.truths n test held other (in_right ps qs (at_test n test held other) there) split;
      }

  -- ---- items

  -- what is saved is restored
  restores_apart : (n : ℕ) (act : Act) → In (points s.body) (at_item n act) → s.kept n ≡ true → AreApart (all_variables s) (λ v. number_of s (saved n v)) (λ v. v) (live_variables s n)
  restores_apart n act there kept =
      record {
        wide = restore_wide s ins outs n act there kept;
        sources = λ v w h g e. let b = live_is s n w g in not_own s (saved n v) w b.0 (sym e);
        targets = λ v w h g e. e;
      }

  -- a variable that the item doesn't write is wanted before it where it is wanted behind it
  past_rest : (hit w two three x : Bool) → w ≡ false → (two || (three && x)) ≡ true → (two || (three && (hit || (not w && x)))) ≡ true
  past_rest hit w true three x e h = refl
  past_rest hit true false three x e h = absurd (true≢false e)
  past_rest true false false true x e h = refl
  past_rest false false false true x e h = h
  past_rest hit false false false x e h = absurd (true≢false (sym h))

  kept_follows : (n : ℕ) (act : Act) (N X W : ℕ → Bool) → InStmt s (item n act) N X W → ActIsTyped (record { vars = s.vars; inputs = ins; outputs = outs }) act → s.kept n ≡ true →
      (m m' r : Memory) → m.inputs ≡ m'.inputs →
      Alike (InStep s set ins outs (λ v. stmt_row (reads_inside s v) (λ p. point_writes p v) (item n act) (N v))) s.vars (all_variables s) (inside_number s) m.cells m'.cells →
      Alike (InRest (λ v. stmt_row (reads_outside s v) (λ p. point_writes p v) (item n act) (X v))) s.vars (all_variables s) (λ v. v) m.cells r.cells →
      Handed (at_item n act ∷ []) W (exec (next (item n (renamed_act (inside_number s) act)) (saves s n)) (all_variables s) m').memory.cells r.cells →
      Follows X (exec_act act s.vars m) r (exec (restores s n) (all_variables s) r)
  kept_follows n act N X W c typed kept m m' r inputs step alike handed =
      let there = c.inside (at_item n act) (inl refl) in
      let k = copies_do (all_variables s) (λ v. number_of s (saved n v)) (λ v. v) (live_variables s n) (restores_apart n act there kept) r alike.long' in
      let l = act_leaves s.vars act (act_proper s.vars ins outs act typed) m alike.long in
      record {
        events = k.events;
        inputs = k.inputs;
        cells =
            record {
              same = λ v i in_rest within.
                  chosen k.kept k.copied l.kept v i (has_place s.vars v i within) in_rest (either (is_kind_2 s v) (is_kind_3 s v && X v) in_rest) within;
              long = l.long;
              long' = k.long;
            };
      }
    where
      there : In (points s.body) (at_item n act)
      there = c.inside (at_item n act) (inl refl)

      o' : List ℤ
      o' = (exec (restores s n) (all_variables s) r).memory.cells

      o : List ℤ
      o = (exec_act act s.vars m).memory.cells

      -- a variable that the item doesn't write
      untouched : ((u i : ℕ) → ((w : ℕ) → In (live_variables s n) w → u ≢ w) → i < width (all_variables s) u → at (all_variables s) o' u i ≡ at (all_variables s) r.cells u i) →
          ((u i : ℕ) → act_writes act u ≡ false → i < width s.vars u → at s.vars o u i ≡ at s.vars m.cells u i) →
          (v i : ℕ) → InRest X v ≡ true → act_writes act v ≡ false → i < width s.vars v → at s.vars o v i ≡ at (all_variables s) o' v i
      untouched restored left v i in_rest still within =
          left v i still within
          ∙ (alike.same v i (past_rest (not (s.kept n) && act_reads act v) (act_writes act v) (is_kind_2 s v) (is_kind_3 s v) (X v) still in_rest) within
          ∙ sym
          (restored v i
          (λ w live e.
          let l = live_is s n w live in
          true≢false (sym (live_writes s distinct n v act there (subst (λ x. is_live s n x ≡ true) (sym e) l.1)) ∙ still))
          (own_width v i within)))

      by_writes : (b : Bool) →
          ((u i : ℕ) → ((w : ℕ) → In (live_variables s n) w → u ≢ w) → i < width (all_variables s) u → at (all_variables s) o' u i ≡ at (all_variables s) r.cells u i) →
          ((w i : ℕ) → In (live_variables s n) w → i < width (all_variables s) w → at (all_variables s) o' w i ≡ at (all_variables s) r.cells (number_of s (saved n w)) i) →
          ((u i : ℕ) → act_writes act u ≡ false → i < width s.vars u → at s.vars o u i ≡ at s.vars m.cells u i) →
          (v i : ℕ) → act_writes act v ≡ b → v < length s.vars → is_kind_3 s v ≡ true → X v ≡ true → InRest X v ≡ true → i < width s.vars v → at s.vars o v i ≡ at (all_variables s) o' v i
      by_writes false restored copied left v i e less kind want in_rest within = untouched restored left v i in_rest e within
      by_writes true restored copied left v i e less kind want in_rest within =
          let live = live_here s n act N X W c v kept kind e want in
          let among = in_filter (is_live s n) (variables s) v (in_numbers 0 (length s.vars) v (omega arith) (omega arith)) live in
          saved_behind s set ins outs n act N X W c typed kept m m' inputs step v i among e within
          ∙ (handed.saves n v i act (inl refl) kept less live within ∙ sym (copied v i among (own_width v i within)))

      chosen : ((u i : ℕ) → ((w : ℕ) → In (live_variables s n) w → u ≢ w) → i < width (all_variables s) u → at (all_variables s) o' u i ≡ at (all_variables s) r.cells u i) →
          ((w i : ℕ) → In (live_variables s n) w → i < width (all_variables s) w → at (all_variables s) o' w i ≡ at (all_variables s) r.cells (number_of s (saved n w)) i) →
          ((u i : ℕ) → act_writes act u ≡ false → i < width s.vars u → at s.vars o u i ≡ at s.vars m.cells u i) →
          (v i : ℕ) → v < length s.vars → InRest X v ≡ true → (is_kind_2 s v ≡ true) ⊎ ((is_kind_3 s v && X v) ≡ true) → i < width s.vars v → at s.vars o v i ≡ at (all_variables s) o' v i
      chosen restored copied left v i less in_rest (inl two) within = untouched restored left v i in_rest (kind_2_writes s v n act two there kept) within
      chosen restored copied left v i less in_rest (inr three) within =
          let both = and_both (is_kind_3 s v) (X v) three in by_writes (act_writes act v) restored copied left v i refl less both.0 both.1 in_rest within

  -- ---- what stands outside the kept set reads

  -- the variables that have in the rest's memory what they have in the body's
  abbrev Known : (ℕ → Bool) → (ℕ → Bool) → ℕ → Bool
  Known X W v = (is_kind_1 s v && not (W v)) || InRest X v

  known_alike : (N X W : ℕ → Bool) (ps : List Point) (m m' r : Memory) → Alike (InStep s set ins outs N) s.vars (all_variables s) (inside_number s) m.cells m'.cells →
      Alike (InRest X) s.vars (all_variables s) (λ v. v) m.cells r.cells → Handed ps W m'.cells r.cells → Alike (Known X W) s.vars (all_variables s) (λ v. v) m.cells r.cells
  known_alike N X W ps m m' r step alike handed =
      record {
        same = λ v i known within. chosen v i (either (is_kind_1 s v && not (W v)) (InRest X v) known) within;
        long = alike.long;
        long' = alike.long';
      }
    where
      not_false : (b : Bool) → not b ≡ true → b ≡ false
      not_false true h = absurd (true≢false (sym h))
      not_false false h = refl

      own_number : (v : ℕ) → is_kind_1 s v ≡ true → inside_number s v ≡ v
      own_number v k = cond-false _ _ _ (refuted (is_kind_3 s v) (λ e. true≢false (sym k ∙ (kind_3_alone s v e).0)))

      chosen : (v i : ℕ) → ((is_kind_1 s v && not (W v)) ≡ true) ⊎ (InRest X v ≡ true) → i < width s.vars v → at s.vars m.cells v i ≡ at (all_variables s) r.cells v i
      chosen v i (inl h) within =
          let both = and_both (is_kind_1 s v) (not (W v)) h in
          step.same v i (or_right (N v) (is_kind_1 s v) both.0) within
          ∙ (ap (λ u. at (all_variables s) m'.cells u i) (own_number v both.0) ∙ handed.kind_1 v i both.0 (not_false (W v) both.1) within)
      chosen v i (inr h) within = alike.same v i h within

  -- a variable that is read is known, where reads of kind 3 are wanted and those of kind 1 are settled
  read_known : (X W : ℕ → Bool) (v : ℕ) → (is_kind_1 s v ≡ true → W v ≡ false) → X v ≡ true → Known X W v ≡ true
  read_known X W v settled want =
      elim (kind_of_variable s v) [
        | inl one ↦ or_left (is_kind_1 s v && not (W v)) (InRest X v) (and_true (is_kind_1 s v) (not (W v)) one (ap not (settled one)))
        | inr more ↦
            elim more [
              | inl two ↦ or_right (is_kind_1 s v && not (W v)) (InRest X v) (or_left (is_kind_2 s v) (is_kind_3 s v && X v) two.1)
              | inr three ↦ or_right (is_kind_1 s v && not (W v)) (InRest X v) (or_right (is_kind_2 s v) (is_kind_3 s v && X v) (and_true (is_kind_3 s v) (X v) three.2 want))
            ]
      ]

  other_follows : (n : ℕ) (act : Act) (N X W : ℕ → Bool) → InStmt s (item n act) N X W → ActIsTyped (record { vars = s.vars; inputs = ins; outputs = outs }) act → s.kept n ≡ false →
      (m m' r : Memory) →
      Alike (InStep s set ins outs (λ v. stmt_row (reads_inside s v) (λ p. point_writes p v) (item n act) (N v))) s.vars (all_variables s) (inside_number s) m.cells m'.cells →
      Alike (InRest (λ v. stmt_row (reads_outside s v) (λ p. point_writes p v) (item n act) (X v))) s.vars (all_variables s) (λ v. v) m.cells r.cells →
      Handed (at_item n act ∷ []) W m'.cells r.cells → Follows X (exec_act act s.vars m) r (exec (next (item n act) done) (all_variables s) r)
  other_follows n act N X W c typed out m m' r step alike handed =
      let there = c.inside (at_item n act) (inl refl) in
      let none = no_event s set n act there out in
      let before : ℕ → Bool = λ v. stmt_row (reads_outside s v) (λ p. point_writes p v) (item n act) (X v) in
      let known = known_alike (λ v. stmt_row (reads_inside s v) (λ p. point_writes p v) (item n act) (N v)) before W (at_item n act ∷ []) m m' r step alike handed in
      let h =
      act_alike s.vars (all_variables s) (λ v. v) (own_renames s) ins outs false act (Known before W) typed (λ e. absurd (true≢false (sym e ∙ none)))
      (λ v reads. read_known before W v (λ k. settled_item s n act N X W c v k out reads)
      (or_left (not (s.kept n) && act_reads act v) (not (act_writes act v) && X v) (and_true (not (s.kept n)) (act_reads act v) (ap not out) reads)))
      m r (λ e. absurd (true≢false (sym e))) known
      in let g = subst (λ a. DoAlike false (λ v. Known before W v || act_writes act v) s.vars (all_variables s) (λ v. v) (exec_act act s.vars m) (exec_act a (all_variables s) r)) (own_act act) h in
      let q = act_quiet (all_variables s) act none r in
      subst (Follows X (exec_act act s.vars m) r) (sym (alone (item n act) (all_variables s) r))
      (record {
        events = q.events;
        inputs = q.inputs;
        cells =
            alike_fewer (λ v. Known before W v || act_writes act v) (InRest X) s.vars (all_variables s) (λ v. v) _ _
            (λ v in_rest. written (not (s.kept n) && act_reads act v) (act_writes act v) (is_kind_1 s v && not (W v)) (is_kind_2 s v) (is_kind_3 s v) (X v) in_rest) g.cells;
      })
    where
      written : (hit w one two three x : Bool) → (two || (three && x)) ≡ true → ((one || (two || (three && (hit || (not w && x))))) || w) ≡ true
      written hit w true two three x h = refl
      written hit w false true three x h = refl
      written hit true false false three x h = or_right (three && (hit || false)) true refl
      written true false false false true x h = refl
      written false false false false true true h = refl
      written false false false false true false h = absurd (true≢false (sym h))
      written hit false false false false x h = absurd (true≢false (sym h))

  -- ---- statements

  -- inside a `do` block
  timed_first : (n : ℕ) (window : Window) (body : Block) (m : Memory) → (exec (first_of_stmt s (timed n window body)) (all_variables s) m).memory ≡ (exec (first_of_block s body) (all_variables s) m).memory
  timed_first n window body m = chosen (holds_kept s body) refl
    where
      chosen : (b : Bool) → holds_kept s body ≡ b →
          (exec (cond b (next (timed n window (first_of_block s body)) done) done) (all_variables s) m).memory ≡ (exec (first_of_block s body) (all_variables s) m).memory
      chosen true e = refl
      chosen false e = ap (λ b. (exec b (all_variables s) m).memory) (sym (first_done s body e))

  -- a branch is empty or the tests agree
  agree : (b b' : Bool) (f g : Block) (vars : List Var) (k : Memory) → (b ≡ b') ⊎ ((f ≡ done) × (g ≡ done)) → exec (cond b' f g) vars k ≡ exec (cond b f g) vars k
  agree b b' f g vars k (inl e) = ap (λ c. exec (cond c f g) vars k) (sym e)
  agree b b' f g vars k (inr none) = ap (λ x. exec x vars k) (empty b' none.0 none.1 ∙ sym (empty b none.0 none.1))
    where
      empty : (c : Bool) → f ≡ done → g ≡ done → cond c f g ≡ done
      empty true h _ = h
      empty false _ h = h

  module _ (n : ℕ) (test : Expr) (held other : Block) (N X W : ℕ → Bool) (c : InStmt s (choice n test held other) N X W)
      (typed : StmtIsTyped (record { vars = s.vars; inputs = ins; outputs = outs }) (choice n test held other)) where
    abbrev before_first : ℕ → Bool
    before_first v = stmt_row (reads_inside s v) (λ p. point_writes p v) (choice n test held other) (N v)

    abbrev before_rest : ℕ → Bool
    before_rest v = stmt_row (reads_outside s v) (λ p. point_writes p v) (choice n test held other) (X v)

    test_in : In (points s.body) (at_test n test held other)
    test_in = c.inside (at_test n test held other) (inl refl)

    -- the first part takes the body's branch, where it has any
    first_agrees : (m m' : Memory) → Alike (InStep s set ins outs before_first) s.vars (all_variables s) (inside_number s) m.cells m'.cells →
        (holds (value test s.vars m.cells) ≡ holds (value (renamed_expr (inside_number s) test) (all_variables s) m'.cells)) ⊎ ((first_of_block s held ≡ done) × (first_of_block s other ≡ done))
    first_agrees m m' step = chosen (holds_kept s held || holds_kept s other) refl
      where
        chosen : (b : Bool) → (holds_kept s held || holds_kept s other) ≡ b →
            (holds (value test s.vars m.cells) ≡ holds (value (renamed_expr (inside_number s) test) (all_variables s) m'.cells)) ⊎ ((first_of_block s held ≡ done) × (first_of_block s other ≡ done))
        chosen true e =
            inl
            (ap holds
            (value_alike s.vars (all_variables s) (inside_number s) (inside_renames s) test bool (InStep s set ins outs before_first) m.cells m'.cells typed.0
            (λ v reads. or_left (before_first v) (is_kind_1 s v)
            (or_left (reads_inside s v (at_test n test held other)) (needed s held N v || needed s other N v) (and_true (holds_kept s held || holds_kept s other) (expr_reads test v) e reads)))
            step))
        chosen false e = let none = neither (holds_kept s held) (holds_kept s other) e in inr (first_done s held none.0, first_done s other none.1)

    -- the truth that is kept is the test's
    truth_kept : (m' : Memory) → length m'.cells ≡ all_words (all_variables s) → is_split s held other ≡ true →
        at (all_variables s) (tested s n test held other m').cells (number_of s (truth_of n)) 0 ≡ value (renamed_expr (inside_number s) test) (all_variables s) m'.cells
    truth_kept m' long e =
        let x = value (renamed_expr (inside_number s) test) (all_variables s) m'.cells in
        ap (λ (k : Memory). at (all_variables s) k.cells (number_of s (truth_of n)) 0) (cond-true _ _ _ e)
        ∙ at_set_same (all_variables s) m'.cells (number_of s (truth_of n)) x long (truth_width n test held other test_in e)

    -- the rest takes the body's branch, where it has any
    rest_agrees : (m m' r : Memory) (last : List ℤ) → Alike (InStep s set ins outs before_first) s.vars (all_variables s) (inside_number s) m.cells m'.cells →
        Alike (InRest before_rest) s.vars (all_variables s) (λ v. v) m.cells r.cells → Handed (stmt_points (choice n test held other)) W last r.cells →
        ((holds_kept s held || holds_kept s other) ≡ false → last ≡ m'.cells) →
        (is_split s held other ≡ true → at (all_variables s) last (number_of s (truth_of n)) 0 ≡ value (renamed_expr (inside_number s) test) (all_variables s) m'.cells) →
        (holds (value test s.vars m.cells) ≡ holds (value (rest_test s n test held other) (all_variables s) r.cells)) ⊎ ((rest_of_block s held ≡ done) × (rest_of_block s other ≡ done))
    rest_agrees m m' r last step alike handed unchanged truth_there = chosen (has_rest s held || has_rest s other) (holds_kept s held || holds_kept s other) refl refl
      where
        chosen : (b k : Bool) → (has_rest s held || has_rest s other) ≡ b → (holds_kept s held || holds_kept s other) ≡ k →
            (holds (value test s.vars m.cells) ≡ holds (value (rest_test s n test held other) (all_variables s) r.cells)) ⊎ ((rest_of_block s held ≡ done) × (rest_of_block s other ≡ done))
        chosen false k e g = let none = neither (has_rest s held) (has_rest s other) e in inr (rest_done s held none.0, rest_done s other none.1)
        chosen true true e g =
            let both : is_split s held other ≡ true = and_true (holds_kept s held || holds_kept s other) (has_rest s held || has_rest s other) g e in
            let same =
            value_alike s.vars (all_variables s) (inside_number s) (inside_renames s) test bool (InStep s set ins outs before_first) m.cells m'.cells typed.0
            (λ v reads. or_left (before_first v) (is_kind_1 s v)
            (or_left (reads_inside s v (at_test n test held other)) (needed s held N v || needed s other N v) (and_true (holds_kept s held || holds_kept s other) (expr_reads test v) g reads)))
            step
            in inl
            (ap holds
            (same
            ∙ (sym (truth_there both)
            ∙ (handed.truths n test held other (inl refl) both
            ∙ (sym (word_at (all_variables s) r.cells (number_of s (truth_of n)))
            ∙ ap (λ e. value e (all_variables s) r.cells) (sym (cond-true (is_split s held other) (variable (number_of s (truth_of n))) test both)))))))
        chosen true false e g =
            let whole : is_split s held other ≡ false = ap (λ b. b && (has_rest s held || has_rest s other)) g in
            let known =
            known_alike before_first before_rest W (stmt_points (choice n test held other)) m m' r step alike
            (record {
              kind_1 = λ v i k ends within. ap (λ l. at (all_variables s) l v i) (sym (unchanged g)) ∙ handed.kind_1 v i k ends within;
              saves = λ k v i act there kept less live within. ap (λ l. at (all_variables s) l (number_of s (saved k v)) i) (sym (unchanged g)) ∙ handed.saves k v i act there kept less live within;
              truths = λ k t h o there sp. ap (λ l. at (all_variables s) l (number_of s (truth_of k)) 0) (sym (unchanged g)) ∙ handed.truths k t h o there sp;
            })
            in inl
            (ap holds
            (value_alike s.vars (all_variables s) (λ v. v) (own_renames s) test bool (Known before_rest W) m.cells r.cells typed.0
            (λ v reads. read_known before_rest W v (λ k. settled_test s n test held other N X W c v k g reads)
            (or_left (reads_outside s v (at_test n test held other)) (wanted s held X v || wanted s other X v) (and_true (not (holds_kept s held || holds_kept s other)) (expr_reads test v) (ap not g) reads)))
            known
            ∙ (ap (λ e. value e (all_variables s) r.cells) (own_expr test) ∙ ap (λ e. value e (all_variables s) r.cells) (sym (cond-false (is_split s held other) (variable (number_of s (truth_of n))) test whole)))))

    -- both parts take the body's branch
    either_branch : (In (if_numbers held ++ if_numbers other) n → ⊥) → (m m' r : Memory) → Alike (InStep s set ins outs before_first) s.vars (all_variables s) (inside_number s) m.cells m'.cells →
        Alike (InRest before_rest) s.vars (all_variables s) (λ v. v) m.cells r.cells →
        Handed (stmt_points (choice n test held other)) W (exec (first_of_stmt s (choice n test held other)) (all_variables s) m').memory.cells r.cells →
        (Handed (stmt_points (choice n test held other)) W (exec (first_of_block s held) (all_variables s) (tested s n test held other m')).memory.cells r.cells → Unit {0} →
        Follows X (exec held s.vars m) r (exec (rest_of_block s held) (all_variables s) r)) →
        (Handed (stmt_points (choice n test held other)) W (exec (first_of_block s other) (all_variables s) (tested s n test held other m')).memory.cells r.cells → Unit {0} →
        Follows X (exec other s.vars m) r (exec (rest_of_block s other) (all_variables s) r)) →
        Follows X (exec_stmt (choice n test held other) s.vars m) r (exec (rest_of_stmt s (choice n test held other)) (all_variables s) r)
    either_branch apart m m' r step alike handed in_held in_other =
        subst (Follows X (exec_stmt (choice n test held other) s.vars m) r) (sym rest_same)
        (by_case (holds (value test s.vars m.cells)) (subst (λ (o : Outcome). Handed (stmt_points (choice n test held other)) W o.memory.cells r.cells) first_same handed))
      where
        k : Memory
        k = tested s n test held other m'

        truth_apart : (b : Block) → ((p : Point) → In (points b) p → In (points s.body) p) → IsTyped (record { vars = s.vars; inputs = ins; outputs = outs }) b →
            ((t : Expr) (h o : Block) → In (points b) (at_test n t h o) → ⊥) → is_split s held other ≡ true → length (tested s n test held other m').cells ≡ all_words (all_variables s) →
            at (all_variables s) (exec (first_of_block s b) (all_variables s) (tested s n test held other m')).memory.cells (number_of s (truth_of n)) 0
            ≡ at (all_variables s) (tested s n test held other m').cells (number_of s (truth_of n)) 0
        truth_apart b in_body typed_b out e long =
            (block_leaves (all_variables s) (first_of_block s b) (first_proper s ins outs b in_body typed_b) (tested s n test held other m') long).kept (number_of s (truth_of n)) 0
            (refuted (block_writes (first_of_block s b) (number_of s (truth_of n))) (λ w. keeps_truth (points b) in_body n test held other test_in e out (first_writes s b (number_of s (truth_of n)) w)))
            (truth_width n test held other test_in e)

        tested_long : length (tested s n test held other m').cells ≡ all_words (all_variables s)
        tested_long = (kept_truth s set ins outs n test held other test_in (InStep s set ins outs before_first) m m' step).long'

        first_same : exec (first_of_stmt s (choice n test held other)) (all_variables s) m' ≡ exec (cond (holds (value test s.vars m.cells)) (first_of_block s held) (first_of_block s other)) (all_variables s) (tested s n test held other m')
        first_same =
            first_choice s n test held other test_in m' step.long'
            ∙ agree (holds (value test s.vars m.cells)) (holds (value (renamed_expr (inside_number s) test) (all_variables s) m'.cells)) (first_of_block s held) (first_of_block s other) (all_variables s)
            (tested s n test held other m') (first_agrees m m' step)

        in_branch : (d : Bool) → is_split s held other ≡ true →
            at (all_variables s) (exec (cond d (first_of_block s held) (first_of_block s other)) (all_variables s) (tested s n test held other m')).memory.cells (number_of s (truth_of n)) 0
            ≡ at (all_variables s) (tested s n test held other m').cells (number_of s (truth_of n)) 0
        in_branch true e =
            truth_apart held (λ p h. c.inside p (inr (in_left (points held) (points other) p h))) typed.1
            (λ t h o g. apart (in_left (if_numbers held) (if_numbers other) n (test_numbered held n t h o g))) e tested_long
        in_branch false e =
            truth_apart other (λ p h. c.inside p (inr (in_right (points held) (points other) p h))) typed.2
            (λ t h o g. apart (in_right (if_numbers held) (if_numbers other) n (test_numbered other n t h o g))) e tested_long

        rest_same : exec (rest_of_stmt s (choice n test held other)) (all_variables s) r ≡ exec (cond (holds (value test s.vars m.cells)) (rest_of_block s held) (rest_of_block s other)) (all_variables s) r
        rest_same =
            rest_choice s n test held other r
            ∙ agree (holds (value test s.vars m.cells)) (holds (value (rest_test s n test held other) (all_variables s) r.cells)) (rest_of_block s held) (rest_of_block s other) (all_variables s) r
            (rest_agrees m m' r (exec (first_of_stmt s (choice n test held other)) (all_variables s) m').memory.cells step alike handed
            (λ e. ap (λ x. (exec x (all_variables s) m').memory.cells) (cond-false _ _ _ e))
            (λ e. ap (λ (o : Outcome). at (all_variables s) o.memory.cells (number_of s (truth_of n)) 0) first_same ∙ (in_branch (holds (value test s.vars m.cells)) e ∙ truth_kept m' step.long' e)))

        by_case : (d : Bool) → Handed (stmt_points (choice n test held other)) W (exec (cond d (first_of_block s held) (first_of_block s other)) (all_variables s) (tested s n test held other m')).memory.cells r.cells →
            Follows X ((cond d (exec held s.vars) (exec other s.vars)) m) r (exec (cond d (rest_of_block s held) (rest_of_block s other)) (all_variables s) r)
        by_case true g = in_held g tt
        by_case false g = in_other g tt

  first_lifted : (a b d k : Bool) → (b || k) ≡ true → ((a || (b || d)) || k) ≡ true
  first_lifted true b d k h = refl
  first_lifted false true d k h = refl
  first_lifted false false true k h = refl
  first_lifted false false false k h = h

  first_lifted_other : (a b d k : Bool) → (d || k) ≡ true → ((a || (b || d)) || k) ≡ true
  first_lifted_other true b d k h = refl
  first_lifted_other false true d k h = refl
  first_lifted_other false false d k h = h

  rest_lifted : (a b d two three : Bool) → (two || (three && b)) ≡ true → (two || (three && (a || (b || d)))) ≡ true
  rest_lifted a b d true three h = refl
  rest_lifted true b d false true h = refl
  rest_lifted false true d false true h = refl
  rest_lifted false false d false true h = absurd (true≢false (sym h))
  rest_lifted a b d false false h = absurd (true≢false (sym h))

  rest_lifted_other : (a b d two three : Bool) → (two || (three && d)) ≡ true → (two || (three && (a || (b || d)))) ≡ true
  rest_lifted_other a b d true three h = refl
  rest_lifted_other true b d false true h = refl
  rest_lifted_other false true d false true h = refl
  rest_lifted_other false false d false true h = h
  rest_lifted_other a b d false false h = absurd (true≢false (sym h))

  mutual
    pub block_follows : (b : Block) (N X W : ℕ → Bool) → InBlock s b N X W → IsTyped (record { vars = s.vars; inputs = ins; outputs = outs }) b → AreDistinct (item_numbers b) → AreDistinct (if_numbers b) →
        (m m' r : Memory) → m.inputs ≡ m'.inputs → Alike (InStep s set ins outs (needed s b N)) s.vars (all_variables s) (inside_number s) m.cells m'.cells →
        Alike (InRest (wanted s b X)) s.vars (all_variables s) (λ v. v) m.cells r.cells → Handed (points b) W (exec (first_of_block s b) (all_variables s) m').memory.cells r.cells →
        Follows X (exec b s.vars m) r (exec (rest_of_block s b) (all_variables s) r)
    block_follows done N X W c typed items tests m m' r inputs step alike handed = record { events = refl; inputs = refl; cells = alike }
    block_follows (next t rest) N X W c typed items tests m m' r inputs step alike handed =
        let ct = head s t rest N X W c in
        let cr = behind_head s t rest N X W c in
        let i = split (stmt_item_numbers t) (item_numbers rest) items in
        let j = split (stmt_if_numbers t) (if_numbers rest) tests in
        let h = stmt_same s set ins outs t (needed s rest N) (wanted s rest X) (ahead s (points rest) W) ct typed.0 m m' inputs step in
        let k = (exec (first_of_stmt s t) (all_variables s) m').memory in
        let last = (exec (first_of_block s rest) (all_variables s) k).memory.cells in
        let all =
        subst (λ o. Handed (stmt_points t ++ points rest) W o.memory.cells r.cells) (exec-joined (first_of_stmt s t) (first_of_block s rest) (all_variables s) m') handed
        in let l = block_leaves (all_variables s) (first_of_block s rest) (first_proper s ins outs rest cr.inside typed.1) k h.cells.long' in
        let front =
        front_handed (stmt_points t) (points rest) W k.cells last r.cells (block_writes (first_of_block s rest)) ct.inside cr.inside
        (λ n x y a b. i.apart n (stmt_item_numbered t n x a) (item_numbered rest n y b))
        (λ n x y p q v w a b. j.apart n (stmt_test_numbered t n x p v a) (test_numbered rest n y q w b)) (first_writes s rest) l all
        in let one = stmt_follows t (needed s rest N) (wanted s rest X) (ahead s (points rest) W) ct typed.0 i.first j.first m m' r inputs step alike front in
        let q = (exec (rest_of_stmt s t) (all_variables s) r).memory in
        let o = exec_stmt t s.vars m in
        let d = block_leaves (all_variables s) (rest_of_stmt s t) (stmt_rest_proper s ins outs t ct.inside typed.0) r alike.long' in
        let back =
        still_handed (stmt_points t) ct.inside (points rest) W last r.cells q.cells (block_writes (rest_of_stmt s t)) cr.inside (stmt_rest_writes s t) d
        (back_handed (stmt_points t) (points rest) W last r.cells all)
        in let more = block_follows rest N X W cr typed.1 i.second j.second o.memory k q (h.inputs refl) h.cells one.cells back in
        subst (Follows X (exec (next t rest) s.vars m) r) (sym (exec-joined (rest_of_stmt s t) (rest_of_block s rest) (all_variables s) r))
        (record {
          events = ap (λ es. es ++ (exec (rest_of_block s rest) (all_variables s) q).events) one.events ∙ more.events;
          inputs = more.inputs ∙ one.inputs;
          cells = more.cells;
        })

    pub stmt_follows : (t : Stmt) (N X W : ℕ → Bool) → InStmt s t N X W → StmtIsTyped (record { vars = s.vars; inputs = ins; outputs = outs }) t → AreDistinct (stmt_item_numbers t) → AreDistinct (stmt_if_numbers t) →
        (m m' r : Memory) → m.inputs ≡ m'.inputs →
        Alike (InStep s set ins outs (λ v. stmt_row (reads_inside s v) (λ p. point_writes p v) t (N v))) s.vars (all_variables s) (inside_number s) m.cells m'.cells →
        Alike (InRest (λ v. stmt_row (reads_outside s v) (λ p. point_writes p v) t (X v))) s.vars (all_variables s) (λ v. v) m.cells r.cells →
        Handed (stmt_points t) W (exec (first_of_stmt s t) (all_variables s) m').memory.cells r.cells →
        Follows X (exec_stmt t s.vars m) r (exec (rest_of_stmt s t) (all_variables s) r)
    stmt_follows (item n act) N X W c typed items tests m m' r inputs step alike handed = chosen (s.kept n) refl handed
      where
        chosen : (b : Bool) → s.kept n ≡ b →
            Handed (at_item n act ∷ []) W (exec (cond b (next (item n (renamed_act (inside_number s) act)) (saves s n)) done) (all_variables s) m').memory.cells r.cells →
            Follows X (exec_act act s.vars m) r (exec (cond b (restores s n) (next (item n act) done)) (all_variables s) r)
        chosen true e g = kept_follows n act N X W c typed e m m' r inputs step alike g
        chosen false e g = other_follows n act N X W c typed e m m' r step alike g
    stmt_follows (choice n test held other) N X W c typed items tests m m' r inputs step alike handed =
        let k = tested s n test held other m' in
        let cells = kept_truth s set ins outs n test held other (test_in n test held other N X W c typed) (InStep s set ins outs (before_first n test held other N X W c typed)) m m' step in
        let i = split (item_numbers held) (item_numbers other) items in
        let j = split (if_numbers held) (if_numbers other) tests.1 in
        either_branch n test held other N X W c typed tests.0 m m' r step alike handed
        (λ both g. block_follows held N X (ahead s (points other) W) (then_branch s n test held other N X W c) typed.1 i.first j.first m k r (inputs ∙ sym (tested_inputs s set ins outs n test held other m'))
        (alike_fewer (InStep s set ins outs (before_first n test held other N X W c typed)) (InStep s set ins outs (needed s held N)) s.vars (all_variables s) (inside_number s) m.cells k.cells
        (λ v h. first_lifted (reads_inside s v (at_test n test held other)) (needed s held N v) (needed s other N v) (is_kind_1 s v) h) cells)
        (alike_fewer (InRest (before_rest n test held other N X W c typed)) (InRest (wanted s held X)) s.vars (all_variables s) (λ v. v) m.cells r.cells
        (λ v h. rest_lifted (reads_outside s v (at_test n test held other)) (wanted s held X v) (wanted s other X v) (is_kind_2 s v) (is_kind_3 s v) h) alike)
        (record {
          kind_1 = λ v q one ends within. both.kind_1 v q one (neither _ _ ends).1 within;
          saves = λ x v q act there kept less live within. both.saves x v q act (inr (in_left (points held) (points other) (at_item x act) there)) kept less live within;
          truths = λ x t h o there sp. both.truths x t h o (inr (in_left (points held) (points other) (at_test x t h o) there)) sp;
        }))
        (λ both g. block_follows other N X W (else_branch s n test held other N X W c) typed.2 i.second j.second m k r (inputs ∙ sym (tested_inputs s set ins outs n test held other m'))
        (alike_fewer (InStep s set ins outs (before_first n test held other N X W c typed)) (InStep s set ins outs (needed s other N)) s.vars (all_variables s) (inside_number s) m.cells k.cells
        (λ v h. first_lifted_other (reads_inside s v (at_test n test held other)) (needed s held N v) (needed s other N v) (is_kind_1 s v) h) cells)
        (alike_fewer (InRest (before_rest n test held other N X W c typed)) (InRest (wanted s other X)) s.vars (all_variables s) (λ v. v) m.cells r.cells
        (λ v h. rest_lifted_other (reads_outside s v (at_test n test held other)) (wanted s held X v) (wanted s other X v) (is_kind_2 s v) (is_kind_3 s v) h) alike)
        (record {
          kind_1 = λ v q one ends within. both.kind_1 v q one ends within;
          saves = λ x v q act there kept less live within. both.saves x v q act (inr (in_right (points held) (points other) (at_item x act) there)) kept less live within;
          truths = λ x t h o there sp. both.truths x t h o (inr (in_right (points held) (points other) (at_test x t h o) there)) sp;
        }))
    stmt_follows (timed n window body) N X W c typed items tests m m' r inputs step alike handed =
        let g = subst (λ (k : Memory). Handed (points body) W k.cells r.cells) (timed_first n window body m') handed in
        let h = block_follows body N X W c typed items tests m m' r inputs step alike g in
        record { events = h.events; inputs = h.inputs; cells = h.cells }
