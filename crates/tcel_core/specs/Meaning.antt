-- What expressions and statements do. A statement's meaning knows no time.
use Rattle.std.specs.Prelude.{ℕ, ℤ, pos, List, [], ◌∷◌, slice_index_or, slice_set, if◌then◌else◌}
use Rattle.tcel_num.specs.Arithmetic.{holds, unary_value, binary_value}
use Rattle.tcel_core.specs.declared.event.EventKind.TheVariants.{Receive, Send}
use Rattle.tcel_core.specs.declared.var.Var.{Var}
use Rattle.tcel_core.specs.Cells.{word, set_word, element_at, set_element, copy_words}
use Rattle.tcel_core.specs.Language.{Expr, number, variable, element, unary, binary, Block, done, next, Stmt, item, choice, timed, Act, assign, assign_at, receive, send, for_loop, while_loop, copy}
use Rattle.tcel_core.specs.Outcome.{Memory, Outcome, quiet, then_run, rounds, rounds_while, event, inside}

-- the first value, or 0 where none is left
abbrev pub head_or_zero : List ℤ → ℤ
head_or_zero [] = pos 0
head_or_zero (x ∷ xs) = x

-- all values but the first
abbrev pub tail : List ℤ → List ℤ
tail [] = []
tail (x ∷ xs) = xs

-- the value that the next receive from an input takes
abbrev pub next_input : Memory → ℕ → ℤ
next_input m port = head_or_zero (slice_index_or m.inputs port [])

-- the words of the variables are these
abbrev pub with_cells : Memory → List ℤ → Memory
with_cells m cells = record { cells = cells; inputs = m.inputs }

-- a scalar is set to the next value of an input, which is gone then
abbrev pub received : List Var → Memory → ℕ → ℕ → Memory
received vars m v port =
    record {
      cells = set_word vars m.cells v (next_input m port);
      inputs = slice_set m.inputs port (tail (slice_index_or m.inputs port []));
    }

-- the value of an expression
abbrev pub value : Expr → List Var → List ℤ → ℤ
value (number n) vars cells = n
value (variable v) vars cells = word vars cells v
value (element v i) vars cells = element_at vars cells v (value i vars cells)
value (unary op e) vars cells = unary_value op (value e vars cells)
value (binary op a b) vars cells = binary_value op (value a vars cells) (value b vars cells)

abbrev mutual
  -- what statements do, one after another
  pub exec : Block → List Var → Memory → Outcome
  exec done vars m = quiet m
  exec (next s rest) vars m = then_run (exec_stmt s vars m) (exec rest vars)

  -- what one statement does
  pub exec_stmt : Stmt → List Var → Memory → Outcome
  exec_stmt (item n act) vars m = exec_act act vars m
  exec_stmt (choice n test held other) vars m =
      (if holds (value test vars m.cells) then exec held vars else exec other vars) m
  exec_stmt (timed n window body) vars m = inside n window (exec body vars m)

  -- what one item does
  pub exec_act : Act → List Var → Memory → Outcome
  exec_act (assign v e) vars m = quiet (with_cells m (set_word vars m.cells v (value e vars m.cells)))
  exec_act (assign_at v i e) vars m =
      quiet (with_cells m (set_element vars m.cells v (value i vars m.cells) (value e vars m.cells)))
  exec_act (receive v port) vars m =
      record { memory = received vars m v port; events = event Receive port (next_input m port) ∷ [] }
  exec_act (send e port) vars m = record { memory = m; events = event Send port (value e vars m.cells) ∷ [] }
  exec_act (for_loop v n body) vars m =
      rounds n (λ j k. exec body vars (with_cells k (set_word vars k.cells v (pos j)))) m
  exec_act (while_loop test n body) vars m =
      rounds_while n (λ k. holds (value test vars k.cells)) (exec body vars) m
  exec_act (copy from to) vars m = quiet (with_cells m (copy_words vars m.cells from to))
