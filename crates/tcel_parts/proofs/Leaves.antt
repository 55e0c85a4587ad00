-- What statements leave alone: variables that they don't write, and where there is no event, inputs.
use Rattle.std.proofs.Common.{◌≡◌, ◌≢◌, ℕ, zero, suc, ◌<◌, Bool, true, false, cond, ◌||◌, ◌==◌, ℤ, pos, List, [], ◌++◌, length, refl, sym, ap, ◌∙◌, arith, length-set, eq-eqb}
use Rattle.std.proofs.lemmas.Bool.{cond_both, true≢false}
use Rattle.tcel_num.specs.Arithmetic.{holds}
use Rattle.tcel_num.proofs.Words.{length-with_element, length-copied}
use Rattle.tcel_core.specs.declared.var.Var.{Var}
use Rattle.tcel_core.specs.Cells.{all_words, place, width, set_word}
use Rattle.tcel_core.specs.Contents.{has_event, stmt_has_event, act_has_event}
use Rattle.tcel_core.specs.Language.{Block, done, next, Stmt, item, choice, timed, Act, assign, assign_at, receive, send, for_loop, while_loop, copy}
use Rattle.tcel_core.specs.Meaning.{exec, exec_act, exec_stmt, value, with_cells, next_input}
use Rattle.tcel_core.specs.Outcome.{Memory, Outcome, enclosed, quiet, rounds, rounds_while, then_run}
use Rattle.tcel_core.specs.Uses.{block_writes, stmt_writes, act_writes}
use Rattle.tcel_core.proofs.Scope.{array_within}
use Rattle.tcel_parts.proofs.Stores.{at, at_set_other, at_element_other, at_copy_other}

-- scalars that are set have a word, and copies are between variables of one width
abbrev mutual
  pub IsProper : List Var → Block → Type 0
  IsProper vars done = Unit {0}
  IsProper vars (next s rest) = StmtIsProper vars s × IsProper vars rest

  pub StmtIsProper : List Var → Stmt → Type 0
  StmtIsProper vars (item id act) = ActIsProper vars act
  StmtIsProper vars (choice id test held other) = IsProper vars held × IsProper vars other
  StmtIsProper vars (timed id window body) = IsProper vars body

  pub ActIsProper : List Var → Act → Type 0
  ActIsProper vars (assign v e) = 0 < width vars v
  ActIsProper vars (assign_at v i e) = Unit {0}
  ActIsProper vars (receive v port) = 0 < width vars v
  ActIsProper vars (send e port) = Unit {0}
  ActIsProper vars (for_loop v n body) = (0 < width vars v) × IsProper vars body
  ActIsProper vars (while_loop test n body) = IsProper vars body
  ActIsProper vars (copy from to) = width vars from ≡ width vars to

-- as many words are left, and the variables that aren't written have theirs
pub record Leaves (vars : List Var) (written : ℕ → Bool) (before after : List ℤ) : Type 0 where
  pub long : length after ≡ all_words vars
  pub kept : (u i : ℕ) → written u ≡ false → i < width vars u → at vars after u i ≡ at vars before u i

-- neither of two tests holds
pub neither : (a b : Bool) → (a || b) ≡ false → (a ≡ false) × (b ≡ false)
neither true b h = absurd (true≢false h)
neither false b h = (refl, h)

-- numbers that a test tells apart
pub differ : (a b : ℕ) → (a == b) ≡ false → b ≢ a
differ a b h e = true≢false (sym (eq-eqb a b (sym e)) ∙ h)

module _ (vars : List Var) where
  -- with what others write besides
  pub leaves_more : (w w' : ℕ → Bool) (a b : List ℤ) → ((u : ℕ) → w' u ≡ false → w u ≡ false) → Leaves vars w a b → Leaves vars w' a b
  leaves_more w w' a b fewer h = record { long = h.long; kept = λ u i none within. h.kept u i (fewer u none) within }

  pub leaves_after : (w : ℕ → Bool) (a b c : List ℤ) → Leaves vars w a b → Leaves vars w b c → Leaves vars w a c
  leaves_after w a b c h g = record { long = g.long; kept = λ u i none within. g.kept u i none within ∙ h.kept u i none within }

  same_cells : (w : ℕ → Bool) (a : List ℤ) → length a ≡ all_words vars → Leaves vars w a a
  same_cells w a long = record { long = long; kept = λ u i none within. refl }

  rounds_leave : (w : ℕ → Bool) (round : ℕ → Memory → Outcome) →
      ((j : ℕ) (k : Memory) → length k.cells ≡ all_words vars → Leaves vars w k.cells (round j k).memory.cells) →
      (n : ℕ) (m : Memory) → length m.cells ≡ all_words vars → Leaves vars w m.cells (rounds n round m).memory.cells
  rounds_leave w round each zero m long = same_cells w m.cells long
  rounds_leave w round each (suc n) m long =
      let o = rounds n round m in
      let h = rounds_leave w round each n m long in
      leaves_after w m.cells o.memory.cells (round n o.memory).memory.cells h (each n o.memory h.long)

  while_leaves : (w : ℕ → Bool) (test : Memory → Bool) (round : Memory → Outcome) →
      ((k : Memory) → length k.cells ≡ all_words vars → Leaves vars w k.cells (round k).memory.cells) →
      (n : ℕ) (m : Memory) → length m.cells ≡ all_words vars → Leaves vars w m.cells (rounds_while n test round m).memory.cells
  while_leaves w test round each zero m long = same_cells w m.cells long
  while_leaves w test round each (suc n) m long =
      let o = round m in
      let h = each m long in
      cond_both (test m) (λ k. then_run (round k) (rounds_while n test round)) quiet (λ f. Leaves vars w m.cells (f m).memory.cells)
      (λ _. leaves_after w m.cells o.memory.cells (rounds_while n test round o.memory).memory.cells h (while_leaves w test round each n o.memory h.long))
      (λ _. same_cells w m.cells long)

  set_leaves : (cells : List ℤ) (v : ℕ) (x : ℤ) → length cells ≡ all_words vars → 0 < width vars v → Leaves vars (λ u. v == u) cells (set_word vars cells v x)
  set_leaves cells v x long some =
      record {
        long = length-set cells (place vars v) x ∙ long;
        kept = λ u i none within. at_set_other vars cells v u i x (differ v u none) within some;
      }

  mutual
    pub block_leaves : (b : Block) → IsProper vars b → (m : Memory) → length m.cells ≡ all_words vars → Leaves vars (block_writes b) m.cells (exec b vars m).memory.cells
    block_leaves done h m long = same_cells (block_writes done) m.cells long
    block_leaves (next s rest) h m long =
        let o = exec_stmt s vars m in
        let w : ℕ → Bool = λ u. stmt_writes s u || block_writes rest u in
        let one = stmt_leaves s h.0 m long in
        leaves_after w m.cells o.memory.cells (exec rest vars o.memory).memory.cells
        (leaves_more (stmt_writes s) w m.cells o.memory.cells (λ u none. (neither (stmt_writes s u) (block_writes rest u) none).0) one)
        (leaves_more (block_writes rest) w o.memory.cells (exec rest vars o.memory).memory.cells (λ u none. (neither (stmt_writes s u) (block_writes rest u) none).1)
        (block_leaves rest h.1 o.memory one.long))

    pub stmt_leaves : (s : Stmt) → StmtIsProper vars s → (m : Memory) → length m.cells ≡ all_words vars → Leaves vars (stmt_writes s) m.cells (exec_stmt s vars m).memory.cells
    stmt_leaves (item id act) h m long = act_leaves act h m long
    stmt_leaves (choice id test held other) h m long =
        let w : ℕ → Bool = λ u. block_writes held u || block_writes other u in
        cond_both (holds (value test vars m.cells)) (exec held vars) (exec other vars) (λ f. Leaves vars w m.cells (f m).memory.cells)
        (λ _. leaves_more (block_writes held) w m.cells (exec held vars m).memory.cells (λ u none. (neither (block_writes held u) (block_writes other u) none).0) (block_leaves held h.0 m long))
        (λ _. leaves_more (block_writes other) w m.cells (exec other vars m).memory.cells (λ u none. (neither (block_writes held u) (block_writes other u) none).1) (block_leaves other h.1 m long))
    stmt_leaves (timed id window body) h m long = block_leaves body h m long

    pub act_leaves : (act : Act) → ActIsProper vars act → (m : Memory) → length m.cells ≡ all_words vars → Leaves vars (act_writes act) m.cells (exec_act act vars m).memory.cells
    act_leaves (assign v e) h m long = set_leaves m.cells v (value e vars m.cells) long h
    act_leaves (assign_at v k e) h m long =
        record {
          long = length-with_element m.cells (place vars v) (width vars v) (value k vars m.cells) (value e vars m.cells) ∙ long;
          kept = λ u i none within. at_element_other vars m.cells v u i (value k vars m.cells) (value e vars m.cells) (differ v u none) within;
        }
    act_leaves (receive v port) h m long = set_leaves m.cells v (next_input m port) long h
    act_leaves (send e port) h m long = same_cells (act_writes (send e port)) m.cells long
    act_leaves (for_loop v n body) h m long =
        let w : ℕ → Bool = λ u. (v == u) || block_writes body u in
        rounds_leave w (λ j k. exec body vars (with_cells k (set_word vars k.cells v (pos j))))
        (λ j k same.
        let set = set_leaves k.cells v (pos j) same h.0 in
        let cells = set_word vars k.cells v (pos j) in
        leaves_after w k.cells cells (exec body vars (with_cells k cells)).memory.cells
        (leaves_more (λ u. v == u) w k.cells cells (λ u none. (neither (v == u) (block_writes body u) none).0) set)
        (leaves_more (block_writes body) w cells (exec body vars (with_cells k cells)).memory.cells (λ u none. (neither (v == u) (block_writes body u) none).1)
        (block_leaves body h.1 (with_cells k cells) set.long)))
        n m long
    act_leaves (while_loop test n body) h m long =
        while_leaves (block_writes body) (λ k. holds (value test vars k.cells)) (exec body vars) (λ k same. block_leaves body h k same) n m long
    act_leaves (copy from to) h m long =
        let a = array_within vars from in
        let b = array_within vars to in
        record {
          long = length-copied m.cells (place vars from) (place vars to) (width vars from) (omega arith) (omega arith) ∙ long;
          kept = λ u i none within. at_copy_other vars m.cells from to u i long h (differ to u none) within;
        }

  -- ---- without events

  -- there are no events, and each input has the values that it had
  pub record IsQuiet (m : Memory) (o : Outcome) : Type 0 where
    pub events : o.events ≡ []
    pub inputs : o.memory.inputs ≡ m.inputs

  still : (m : Memory) → IsQuiet m (quiet m)
  still m = record { events = refl; inputs = refl }

  quiet_after : (m : Memory) (o : Outcome) (more : Memory → Outcome) → IsQuiet m o → IsQuiet o.memory (more o.memory) → IsQuiet m (then_run o more)
  quiet_after m o more h g = record { events = ap (λ es. es ++ (more o.memory).events) h.events ∙ g.events; inputs = g.inputs ∙ h.inputs }

  rounds_quiet : (round : ℕ → Memory → Outcome) → ((j : ℕ) (k : Memory) → IsQuiet k (round j k)) → (n : ℕ) (m : Memory) → IsQuiet m (rounds n round m)
  rounds_quiet round each zero m = still m
  rounds_quiet round each (suc n) m = quiet_after m (rounds n round m) (round n) (rounds_quiet round each n m) (each n (rounds n round m).memory)

  while_quiet : (test : Memory → Bool) (round : Memory → Outcome) → ((k : Memory) → IsQuiet k (round k)) → (n : ℕ) (m : Memory) → IsQuiet m (rounds_while n test round m)
  while_quiet test round each zero m = still m
  while_quiet test round each (suc n) m =
      cond_both (test m) (λ k. then_run (round k) (rounds_while n test round)) quiet (λ f. IsQuiet m (f m))
      (λ _. quiet_after m (round m) (rounds_while n test round) (each m) (while_quiet test round each n (round m).memory)) (λ _. still m)

  if_neither : (a b : Bool) → cond a true b ≡ false → (a ≡ false) × (b ≡ false)
  if_neither true b h = absurd (true≢false h)
  if_neither false b h = (refl, h)

  mutual
    pub block_quiet : (b : Block) → has_event b ≡ false → (m : Memory) → IsQuiet m (exec b vars m)
    block_quiet done none m = still m
    block_quiet (next s rest) none m =
        let both = if_neither (stmt_has_event s) (has_event rest) none in
        quiet_after m (exec_stmt s vars m) (exec rest vars) (stmt_quiet s both.0 m) (block_quiet rest both.1 (exec_stmt s vars m).memory)

    pub stmt_quiet : (s : Stmt) → stmt_has_event s ≡ false → (m : Memory) → IsQuiet m (exec_stmt s vars m)
    stmt_quiet (item id act) none m = act_quiet act none m
    stmt_quiet (choice id test held other) none m =
        let both = if_neither (has_event held) (has_event other) none in
        cond_both (holds (value test vars m.cells)) (exec held vars) (exec other vars) (λ f. IsQuiet m (f m))
        (λ _. block_quiet held both.0 m) (λ _. block_quiet other both.1 m)
    stmt_quiet (timed id window body) none m =
        let h = block_quiet body none m in record { events = ap (enclosed id window true) h.events; inputs = h.inputs }

    pub act_quiet : (act : Act) → act_has_event act ≡ false → (m : Memory) → IsQuiet m (exec_act act vars m)
    act_quiet (assign v e) none m = record { events = refl; inputs = refl }
    act_quiet (assign_at v i e) none m = record { events = refl; inputs = refl }
    act_quiet (receive v port) none m = absurd (true≢false none)
    act_quiet (send e port) none m = absurd (true≢false none)
    act_quiet (for_loop v n body) none m =
        rounds_quiet (λ j k. exec body vars (with_cells k (set_word vars k.cells v (pos j))))
        (λ j k. let h = block_quiet body none (with_cells k (set_word vars k.cells v (pos j))) in record { events = h.events; inputs = h.inputs }) n m
    act_quiet (while_loop test n body) none m = while_quiet (λ k. holds (value test vars k.cells)) (exec body vars) (λ k. block_quiet body none k) n m
    act_quiet (copy from to) none m = record { events = refl; inputs = refl }
