-- The first part does what the body does: its events and inputs, and what kept readers still need.
use Rattle.std.proofs.Common.{◌≡◌, ◌≢◌, ℕ, ◌<◌, Bool, true, false, cond, not, ◌||◌, ◌&&◌, ℤ, ◌++◌, length, refl, sym, ap, ◌∙◌, subst, arith, ◌⊎◌, inl, inr, append-nil, length-set}
use Rattle.std.proofs.lemmas.Bool.{true≢false, or_left, or_right, cond-true, cond-false}
use Rattle.tcel_num.specs.Arithmetic.{holds}
use Rattle.tcel_core.specs.Cells.{place, width, set_word}
use Rattle.tcel_core.specs.Kept.{IsKeptSet}
use Rattle.tcel_core.specs.Kinds.{Slicing, holds_kept, reads_inside, is_kind_1}
use Rattle.tcel_core.specs.Language.{Expr, Block, done, next, Stmt, item, choice, timed, Act}
use Rattle.tcel_core.specs.Meaning.{exec, exec_stmt, exec_act, value, with_cells}
use Rattle.tcel_core.specs.Outcome.{Memory, Outcome, quiet, then_run, enclosed}
use Rattle.tcel_core.specs.Parts.{Added, copy_of, saved, truth_of, is_split, added, number_of, all_variables, inside_number, saves, live_variables, first_of_block, first_of_stmt, renamed_expr, renamed_act}
use Rattle.tcel_core.specs.Paths.{at_item, at_test, points, point_writes}
use Rattle.tcel_core.specs.Typing.{IsTyped, StmtIsTyped, ActIsTyped, bool}
use Rattle.tcel_core.specs.Uses.{act_reads, act_writes, expr_reads}
use Rattle.tcel_core.proofs.MeaningLaws.{exec-joined}
use Rattle.tcel_parts.specs.Rows.{stmt_row}
use Rattle.tcel_parts.proofs.Alike.{Alike, DoAlike, alike_fewer, either, has_place, act_alike, value_alike}
use Rattle.tcel_parts.proofs.Context.{InBlock, InStmt, needed, wanted, ahead, head, behind_head, then_branch, else_branch, unneeded, kind_1_writes, no_event}
use Rattle.tcel_parts.proofs.Copies.{AreApart, copies_do}
use Rattle.tcel_parts.proofs.Empty.{alone, first_done, first_choice, tested}
use Rattle.tcel_parts.proofs.Hits.{and_true}
use Rattle.tcel_parts.proofs.Leaves.{act_leaves, act_quiet, neither}
use Rattle.tcel_parts.proofs.Members.{In}
use Rattle.tcel_parts.proofs.NewVariables.{width_added, width_saved, inside_is, inside_renames, one_number, not_own, copy_in, saved_in, truth_in}
use Rattle.tcel_parts.proofs.PartsProper.{act_proper, save_wide, live_kind}
use Rattle.tcel_parts.proofs.PartsWrite.{live_is}
use Rattle.tcel_parts.proofs.Stores.{at, at_set_other}

-- ---- numbers of different kinds

abbrev is_copy : Added → Bool
is_copy (copy_of v) = true
is_copy (saved n v) = false
is_copy (truth_of n) = false

abbrev is_saved : Added → Bool
is_saved (copy_of v) = false
is_saved (saved n v) = true
is_saved (truth_of n) = false

pub copy_not_saved : (v n w : ℕ) → copy_of v ≢ saved n w
copy_not_saved v n w e = true≢false (ap is_copy e)

pub copy_not_truth : (v n : ℕ) → copy_of v ≢ truth_of n
copy_not_truth v n e = true≢false (ap is_copy e)

pub saved_not_truth : (n v m : ℕ) → saved n v ≢ truth_of m
saved_not_truth n v m e = true≢false (ap is_saved e)

abbrev variable_of : Added → ℕ
variable_of (copy_of v) = v
variable_of (saved n v) = v
variable_of (truth_of n) = n

abbrev item_of : Added → ℕ
item_of (copy_of v) = v
item_of (saved n v) = n
item_of (truth_of n) = n

pub saved_variable : (n v m w : ℕ) → saved n v ≡ saved m w → v ≡ w
saved_variable n v m w e = ap variable_of e

pub saved_item : (n v m w : ℕ) → saved n v ≡ saved m w → n ≡ m
saved_item n v m w e = ap item_of e

pub truth_test : (n m : ℕ) → truth_of n ≡ truth_of m → n ≡ m
truth_test n m e = ap item_of e

module _ (s : Slicing) where
  -- no number that a kept item names is an added one that isn't a copy
  pub inside_apart : (v : ℕ) (a : Added) → v < length s.vars → In (added s) a → ((w : ℕ) → copy_of w ≢ a) → inside_number s v ≢ number_of s a
  inside_apart v a less there other e =
      elim (inside_is s v) [
        | inl c ↦ other v (one_number s (copy_of v) a (copy_in s v less c.0) there (sym c.1 ∙ e))
        | inr o ↦ not_own s a v less (sym o.1 ∙ e)
      ]

  -- the values that are saved behind an item
  pub saves_apart : (n : ℕ) (act : Act) → In (points s.body) (at_item n act) → s.kept n ≡ true →
      AreApart (all_variables s) (λ v. number_of s (copy_of v)) (λ v. number_of s (saved n v)) (live_variables s n)
  saves_apart n act there kept =
      record {
        wide = save_wide s 0 0 n act there kept;
        sources = λ v w h g e.
            let a = live_is s n v h in
            let b = live_is s n w g in
            copy_not_saved v n w
            (one_number s (copy_of v) (saved n w) (copy_in s v a.0 (live_kind s 0 0 n v a.1)) (saved_in s n w act there kept b.0 b.1) e);
        targets = λ v w h g e.
            let a = live_is s n v h in
            let b = live_is s n w g in
            saved_variable n v n w (one_number s (saved n v) (saved n w) (saved_in s n v act there kept a.0 a.1) (saved_in s n w act there kept b.0 b.1) e);
      }

-- ---- tests of rows

-- what an item writes or leaves of what is needed behind it
behind_item : (hit w n k : Bool) → (n || k) ≡ true → (((hit || (not w && n)) || k) || w) ≡ true
behind_item true w n k h = refl
behind_item false true n k h = or_right ((false || (false && n)) || k) true refl
behind_item false false n k h = or_left (n || k) false h

-- what it doesn't write
past_item : (hit w n k : Bool) → w ≡ false → (n || k) ≡ true → ((hit || (not w && n)) || k) ≡ true
past_item true w n k e h = refl
past_item false true n k e h = absurd (true≢false e)
past_item false false n k e h = h

module _ (s : Slicing) (set : IsKeptSet s.body s.kept) (ins outs : ℕ) where
  -- what the first part has as the body has it: what is needed, and all of kind 1
  abbrev pub InStep : (ℕ → Bool) → ℕ → Bool
  InStep N v = N v || is_kind_1 s v

  -- body and first part do the same
  abbrev pub Same : (ℕ → Bool) → Outcome → Outcome → Type 0
  Same N o o' = DoAlike true (InStep N) s.vars (all_variables s) (inside_number s) o o'

  -- one after the other
  chained : (N M : ℕ → Bool) (o o' : Outcome) (more more' : Memory → Outcome) → Same N o o' → Same M (more o.memory) (more' o'.memory) → Same M (then_run o more) (then_run o' more')
  chained N M o o' more more' h g =
      record {
        events = ap (λ es. es ++ (more o.memory).events) h.events ∙ ap (λ es. o'.events ++ es) g.events;
        inputs = g.inputs;
        cells = g.cells;
      }

  -- ---- items

  kept_item : (n : ℕ) (act : Act) (N X W : ℕ → Bool) → InStmt s (item n act) N X W → ActIsTyped (record { vars = s.vars; inputs = ins; outputs = outs }) act → s.kept n ≡ true →
      (m m' : Memory) → m.inputs ≡ m'.inputs → Alike (InStep (λ v. stmt_row (reads_inside s v) (λ p. point_writes p v) (item n act) (N v))) s.vars (all_variables s) (inside_number s) m.cells m'.cells →
      Same N (exec_act act s.vars m) (exec (next (item n (renamed_act (inside_number s) act)) (saves s n)) (all_variables s) m')
  kept_item n act N X W c typed kept m m' inputs alike =
      let S = InStep (λ v. stmt_row (reads_inside s v) (λ p. point_writes p v) (item n act) (N v)) in
      let there = c.inside (at_item n act) (inl refl) in
      let h = act_alike s.vars (all_variables s) (inside_number s) (inside_renames s) ins outs true act S typed (λ _. refl)
      (λ v reads. or_left (stmt_row (reads_inside s v) (λ p. point_writes p v) (item n act) (N v)) (is_kind_1 s v)
      (or_left (s.kept n && act_reads act v) (not (act_writes act v) && N v) (and_true (s.kept n) (act_reads act v) kept reads)))
      m m' (λ _. inputs) alike
      in let o' = exec_act (renamed_act (inside_number s) act) (all_variables s) m' in
      let k =
      copies_do (all_variables s) (λ v. number_of s (copy_of v)) (λ v. number_of s (saved n v)) (live_variables s n) (saves_apart s n act there kept) o'.memory h.cells.long'
      in record {
        events = h.events ∙ (sym (append-nil o'.events) ∙ ap (λ es. o'.events ++ es) (sym k.events));
        inputs = λ e. h.inputs e ∙ sym k.inputs;
        cells =
            record {
              same = λ v i in_step within.
                  let less = has_place s.vars v i within in
                  h.cells.same v i (behind_item (s.kept n && act_reads act v) (act_writes act v) (N v) (is_kind_1 s v) in_step) within
                  ∙ sym
                  (k.kept (inside_number s v) i
                  (λ w live.
                  let l = live_is s n w live in
                  inside_apart s v (saved n w) less (saved_in s n w act there kept l.0 l.1) (λ x. copy_not_saved x n w))
                  (subst (λ b. i < b) ((inside_renames s).wide v less) within));
              long = h.cells.long;
              long' = k.long;
            };
      }

  other_item : (n : ℕ) (act : Act) (N X W : ℕ → Bool) → InStmt s (item n act) N X W → ActIsTyped (record { vars = s.vars; inputs = ins; outputs = outs }) act → s.kept n ≡ false →
      (m m' : Memory) → m.inputs ≡ m'.inputs → Alike (InStep (λ v. stmt_row (reads_inside s v) (λ p. point_writes p v) (item n act) (N v))) s.vars (all_variables s) (inside_number s) m.cells m'.cells →
      Same N (exec_act act s.vars m) (quiet m')
  other_item n act N X W c typed out m m' inputs alike =
      let there = c.inside (at_item n act) (inl refl) in
      let q = act_quiet s.vars act (no_event s set n act there out) m in
      let l = act_leaves s.vars act (act_proper s.vars ins outs act typed) m alike.long in
      record {
        events = q.events;
        inputs = λ _. q.inputs ∙ inputs;
        cells =
            record {
              same = λ v i in_step within.
                  let still = unwritten v (either (N v) (is_kind_1 s v) in_step) in
                  l.kept v i still within ∙ alike.same v i (past_item (s.kept n && act_reads act v) (act_writes act v) (N v) (is_kind_1 s v) still in_step) within;
              long = l.long;
              long' = alike.long';
            };
      }
    where
      first : (v : ℕ) (b : Bool) → act_writes act v ≡ b → N v ≡ true → act_writes act v ≡ false
      first v false e h = e
      first v true e h = absurd (true≢false (sym h ∙ unneeded s n act N X W c v out e))

      unwritten : (v : ℕ) → (N v ≡ true) ⊎ (is_kind_1 s v ≡ true) → act_writes act v ≡ false
      unwritten v (inl h) = first v (act_writes act v) refl h
      unwritten v (inr k) = kind_1_writes s v n act k (c.inside (at_item n act) (inl refl)) out

  -- ---- statements

  -- where the test's truth is kept, all that is in step stays so
  pub kept_truth : (n : ℕ) (test : Expr) (held other : Block) → In (points s.body) (at_test n test held other) → (S : ℕ → Bool) (m m' : Memory) →
      Alike S s.vars (all_variables s) (inside_number s) m.cells m'.cells → Alike S s.vars (all_variables s) (inside_number s) m.cells (tested s n test held other m').cells
  kept_truth n test held other there S m m' alike = chosen (is_split s held other) refl
    where
      x : ℤ
      x = value (renamed_expr (inside_number s) test) (all_variables s) m'.cells

      chosen : (b : Bool) → is_split s held other ≡ b →
          Alike S s.vars (all_variables s) (inside_number s) m.cells (cond b (with_cells m' (set_word (all_variables s) m'.cells (number_of s (truth_of n)) x)) m').cells
      chosen false e = alike
      chosen true e =
          let one = width_added s (truth_of n) (truth_in s n test held other there e) in
          record {
            same = λ v i in_set within.
                let less = has_place s.vars v i within in
                alike.same v i in_set within
                ∙ sym
                (at_set_other (all_variables s) m'.cells (number_of s (truth_of n)) (inside_number s v) i x
                (inside_apart s v (truth_of n) less (truth_in s n test held other there e) (λ w. copy_not_truth w n)) (subst (λ b. i < b) ((inside_renames s).wide v less) within) (omega arith));
            long = alike.long;
            long' = length-set m'.cells (place (all_variables s) (number_of s (truth_of n))) x ∙ alike.long';
          }

  -- its inputs are those before
  pub tested_inputs : (n : ℕ) (test : Expr) (held other : Block) (m : Memory) → (tested s n test held other m).inputs ≡ m.inputs
  tested_inputs n test held other m = chosen (is_split s held other)
    where
      chosen : (b : Bool) → (cond b (with_cells m (set_word (all_variables s) m.cells (number_of s (truth_of n)) (value (renamed_expr (inside_number s) test) (all_variables s) m.cells))) m).inputs ≡ m.inputs
      chosen true = refl
      chosen false = refl

  mutual
    pub block_same : (b : Block) (N X W : ℕ → Bool) → InBlock s b N X W → IsTyped (record { vars = s.vars; inputs = ins; outputs = outs }) b → (m m' : Memory) → m.inputs ≡ m'.inputs →
        Alike (InStep (needed s b N)) s.vars (all_variables s) (inside_number s) m.cells m'.cells → Same N (exec b s.vars m) (exec (first_of_block s b) (all_variables s) m')
    block_same done N X W c typed m m' inputs alike = record { events = refl; inputs = λ _. inputs; cells = alike }
    block_same (next t rest) N X W c typed m m' inputs alike =
        let h = stmt_same t (needed s rest N) (wanted s rest X) (ahead s (points rest) W) (head s t rest N X W c) typed.0 m m' inputs alike in
        let o = exec_stmt t s.vars m in
        let o' = exec (first_of_stmt s t) (all_variables s) m' in
        subst (λ r. Same N (exec (next t rest) s.vars m) r) (sym (exec-joined (first_of_stmt s t) (first_of_block s rest) (all_variables s) m'))
        (chained (needed s rest N) N o o' (exec rest s.vars) (exec (first_of_block s rest) (all_variables s)) h
        (block_same rest N X W (behind_head s t rest N X W c) typed.1 o.memory o'.memory (h.inputs refl) h.cells))

    pub stmt_same : (t : Stmt) (N X W : ℕ → Bool) → InStmt s t N X W → StmtIsTyped (record { vars = s.vars; inputs = ins; outputs = outs }) t → (m m' : Memory) → m.inputs ≡ m'.inputs →
        Alike (InStep (λ v. stmt_row (reads_inside s v) (λ p. point_writes p v) t (N v))) s.vars (all_variables s) (inside_number s) m.cells m'.cells →
        Same N (exec_stmt t s.vars m) (exec (first_of_stmt s t) (all_variables s) m')
    stmt_same (item n act) N X W c typed m m' inputs alike = chosen (s.kept n) refl
      where
        chosen : (b : Bool) → s.kept n ≡ b → Same N (exec_act act s.vars m) (exec (cond b (next (item n (renamed_act (inside_number s) act)) (saves s n)) done) (all_variables s) m')
        chosen true e = kept_item n act N X W c typed e m m' inputs alike
        chosen false e = other_item n act N X W c typed e m m' inputs alike
    stmt_same (choice n test held other) N X W c typed m m' inputs alike =
        chosen (holds_kept s held || holds_kept s other) refl
        (λ k same both. block_same held N X (ahead s (points other) W) (then_branch s n test held other N X W c) typed.1 m k same both)
        (λ k same both. block_same other N X W (else_branch s n test held other N X W c) typed.2 m k same both)
      where
        in_held : (v : ℕ) → InStep (needed s held N) v ≡ true → InStep (λ u. stmt_row (reads_inside s u) (λ p. point_writes p u) (choice n test held other) (N u)) v ≡ true
        in_held v h = lifted (reads_inside s v (at_test n test held other)) (needed s held N v) (needed s other N v) (is_kind_1 s v) h
          where
            lifted : (a b d k : Bool) → (b || k) ≡ true → ((a || (b || d)) || k) ≡ true
            lifted true b d k h = refl
            lifted false true d k h = refl
            lifted false false true k h = refl
            lifted false false false k h = h

        in_other : (v : ℕ) → InStep (needed s other N) v ≡ true → InStep (λ u. stmt_row (reads_inside s u) (λ p. point_writes p u) (choice n test held other) (N u)) v ≡ true
        in_other v h = lifted (reads_inside s v (at_test n test held other)) (needed s held N v) (needed s other N v) (is_kind_1 s v) h
          where
            lifted : (a b d k : Bool) → (d || k) ≡ true → ((a || (b || d)) || k) ≡ true
            lifted true b d k h = refl
            lifted false true d k h = refl
            lifted false false d k h = h

        Branch : Block → Type 0
        Branch b =
            (k : Memory) → m.inputs ≡ k.inputs → Alike (InStep (needed s b N)) s.vars (all_variables s) (inside_number s) m.cells k.cells →
            Same N (exec b s.vars m) (exec (first_of_block s b) (all_variables s) k)

        taken : (b b' : Bool) → b ≡ b' → (k : Memory) → Same N (exec held s.vars m) (exec (first_of_block s held) (all_variables s) k) →
            Same N (exec other s.vars m) (exec (first_of_block s other) (all_variables s) k) →
            Same N ((cond b (exec held s.vars) (exec other s.vars)) m) (exec (cond b' (first_of_block s held) (first_of_block s other)) (all_variables s) k)
        taken b b' e k h g =
            subst (λ d. Same N ((cond b (exec held s.vars) (exec other s.vars)) m) (exec (cond d (first_of_block s held) (first_of_block s other)) (all_variables s) k)) e (by_case b)
          where
            by_case : (d : Bool) → Same N ((cond d (exec held s.vars) (exec other s.vars)) m) (exec (cond d (first_of_block s held) (first_of_block s other)) (all_variables s) k)
            by_case true = h
            by_case false = g

        empty : (b : Bool) (k : Memory) → Same N (exec held s.vars m) (quiet k) → Same N (exec other s.vars m) (quiet k) → Same N ((cond b (exec held s.vars) (exec other s.vars)) m) (quiet k)
        empty true k h g = h
        empty false k h g = g

        chosen : (d : Bool) → (holds_kept s held || holds_kept s other) ≡ d → Branch held → Branch other →
            Same N (exec_stmt (choice n test held other) s.vars m) (exec (first_of_stmt s (choice n test held other)) (all_variables s) m')
        chosen true e h g =
            let there = c.inside (at_test n test held other) (inl refl) in
            let both = kept_truth n test held other there (InStep (λ u. stmt_row (reads_inside s u) (λ p. point_writes p u) (choice n test held other) (N u))) m m' alike in
            let k = tested s n test held other m' in
            let same = inputs ∙ sym (tested_inputs n test held other m') in
            subst (λ o. Same N (exec_stmt (choice n test held other) s.vars m) o) (sym (first_choice s n test held other there m' alike.long'))
            (taken (holds (value test s.vars m.cells)) (holds (value (renamed_expr (inside_number s) test) (all_variables s) m'.cells))
            (ap holds
            (value_alike s.vars (all_variables s) (inside_number s) (inside_renames s) test bool (InStep (λ u. stmt_row (reads_inside s u) (λ p. point_writes p u) (choice n test held other) (N u))) m.cells m'.cells typed.0
            (λ v reads. or_left (reads_inside s v (at_test n test held other) || (needed s held N v || needed s other N v)) (is_kind_1 s v)
            (or_left (reads_inside s v (at_test n test held other)) (needed s held N v || needed s other N v) (and_true (holds_kept s held || holds_kept s other) (expr_reads test v) e reads)))
            alike))
            k
            (h k same (alike_fewer (InStep (λ u. stmt_row (reads_inside s u) (λ p. point_writes p u) (choice n test held other) (N u))) (InStep (needed s held N)) s.vars (all_variables s) (inside_number s) m.cells k.cells in_held both))
            (g k same (alike_fewer (InStep (λ u. stmt_row (reads_inside s u) (λ p. point_writes p u) (choice n test held other) (N u))) (InStep (needed s other N)) s.vars (all_variables s) (inside_number s) m.cells k.cells in_other both)))
        chosen false e h g =
            let none = neither (holds_kept s held) (holds_kept s other) e in
            let alike_held = alike_fewer (InStep (λ u. stmt_row (reads_inside s u) (λ p. point_writes p u) (choice n test held other) (N u))) (InStep (needed s held N)) s.vars (all_variables s) (inside_number s) m.cells m'.cells in_held alike in
            let alike_other = alike_fewer (InStep (λ u. stmt_row (reads_inside s u) (λ p. point_writes p u) (choice n test held other) (N u))) (InStep (needed s other N)) s.vars (all_variables s) (inside_number s) m.cells m'.cells in_other alike in
            subst (λ b. Same N (exec_stmt (choice n test held other) s.vars m) (exec b (all_variables s) m')) (sym (cond-false _ _ _ e))
            (empty (holds (value test s.vars m.cells)) m'
            (subst (λ b. Same N (exec held s.vars m) (exec b (all_variables s) m')) (first_done s held none.0) (h m' inputs alike_held))
            (subst (λ b. Same N (exec other s.vars m) (exec b (all_variables s) m')) (first_done s other none.1) (g m' inputs alike_other)))
    stmt_same (timed n window body) N X W c typed m m' inputs alike =
        chosen (holds_kept s body) refl (block_same body N X W c typed m m' inputs alike)
      where
        chosen : (b : Bool) → holds_kept s body ≡ b → Same N (exec body s.vars m) (exec (first_of_block s body) (all_variables s) m') →
            Same N (exec_stmt (timed n window body) s.vars m) (exec (cond b (next (timed n window (first_of_block s body)) done) done) (all_variables s) m')
        chosen true e h =
            subst (λ o. Same N (exec_stmt (timed n window body) s.vars m) o) (sym (alone (timed n window (first_of_block s body)) (all_variables s) m'))
            (record { events = ap (enclosed n window true) h.events; inputs = h.inputs; cells = h.cells })
        chosen false e h =
            let g = subst (λ b. Same N (exec body s.vars m) (exec b (all_variables s) m')) (first_done s body e) h in
            record { events = ap (enclosed n window true) g.events; inputs = g.inputs; cells = g.cells }

  -- what a kept item wrote to a variable for which it is live is saved behind it
  pub saved_behind : (n : ℕ) (act : Act) (N X W : ℕ → Bool) → InStmt s (item n act) N X W → ActIsTyped (record { vars = s.vars; inputs = ins; outputs = outs }) act → s.kept n ≡ true →
      (m m' : Memory) → m.inputs ≡ m'.inputs → Alike (InStep (λ v. stmt_row (reads_inside s v) (λ p. point_writes p v) (item n act) (N v))) s.vars (all_variables s) (inside_number s) m.cells m'.cells →
      (v i : ℕ) → In (live_variables s n) v → act_writes act v ≡ true → i < width s.vars v →
      at s.vars (exec_act act s.vars m).memory.cells v i
      ≡ at (all_variables s) (exec (next (item n (renamed_act (inside_number s) act)) (saves s n)) (all_variables s) m').memory.cells (number_of s (saved n v)) i
  saved_behind n act N X W c typed kept m m' inputs alike v i live writes within =
      let S = InStep (λ v. stmt_row (reads_inside s v) (λ p. point_writes p v) (item n act) (N v)) in
      let there = c.inside (at_item n act) (inl refl) in
      let h = act_alike s.vars (all_variables s) (inside_number s) (inside_renames s) ins outs true act S typed (λ _. refl)
      (λ v reads. or_left (stmt_row (reads_inside s v) (λ p. point_writes p v) (item n act) (N v)) (is_kind_1 s v)
      (or_left (s.kept n && act_reads act v) (not (act_writes act v) && N v) (and_true (s.kept n) (act_reads act v) kept reads)))
      m m' (λ _. inputs) alike
      in let o' = exec_act (renamed_act (inside_number s) act) (all_variables s) m' in
      let k =
      copies_do (all_variables s) (λ v. number_of s (copy_of v)) (λ v. number_of s (saved n v)) (live_variables s n) (saves_apart s n act there kept) o'.memory h.cells.long'
      in let l = live_is s n v live in
      h.cells.same v i (or_right (S v) (act_writes act v) writes) within
      ∙ (ap (λ u. at (all_variables s) o'.memory.cells u i) (cond-true _ _ _ (live_kind s 0 0 n v l.1))
      ∙ sym (k.copied v i live (subst (λ b. i < b) (width_saved s n v act there kept l.0 l.1) within)))
