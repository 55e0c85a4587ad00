-- The code of expressions and bodies. A line has the depth of the stack before it; targets are places in the task's code.
use Rattle.std.specs.Prelude.{ℕ, ◌+◌, pos, Bool, true, false, List, [], ◌∷◌, ◌++◌, length, Option, None, Some}
use Rattle.tcel_core.specs.declared.var.Var.{Var}
use Rattle.tcel_core.specs.Cells.{place, width}
use Rattle.tcel_core.specs.Contents.{has_statement, loops, stmt_loops, hold_of}
use Rattle.tcel_core.specs.Language.{Expr, number, variable, element, unary, binary, Block, done, next, Stmt, item, choice, timed, Act, assign, assign_at, receive, send, for_loop, while_loop, copy}
use Rattle.tcel_image.specs.declared.image.Line.{Line}
use Rattle.tcel_image.specs.declared.image.Instr.{Instr}
use Rattle.tcel_image.specs.declared.image.Instr.TheVariants.{Const, Get, Put, GetAt, PutAt, Arith, Jump, Branch, Loop, Receive, Send, Hold, Copy, Mark, End}
use Rattle.tcel_code.specs.Counters.{Counters, in_order, counter_of, behind, counters_of}

-- one line of code
abbrev pub at : ℕ → Instr → List Line
at depth instr = record { instr = instr; depth = depth } ∷ []

-- the code of an expression, from this depth on: it leaves the value on the stack
abbrev pub expr_code : Expr → List Var → ℕ → List Line
expr_code (number n) vars depth = at depth (Const n)
expr_code (variable v) vars depth = at depth (Get (place vars v))
expr_code (element v i) vars depth = expr_code i vars depth ++ at (depth + 1) (GetAt (place vars v) (width vars v))
expr_code (unary op e) vars depth = expr_code e vars depth ++ at (depth + 1) (Arith op)
expr_code (binary op a b) vars depth = expr_code a vars depth ++ (expr_code b vars (depth + 1) ++ at (depth + 2) (Arith op))

-- the code of a hold
abbrev pub hold_code : Option ℕ → List Line
hold_code None = []
hold_code (Some bound) = at 0 (Hold bound)

-- the code behind the branch of an `if`, for the place of its `yes` code: a jump past the `no` code, where that is there
abbrev pub branches_code : Bool → ℕ → List Line → List Line → List Line
branches_code true from held other =
    held ++ (at 0 (Jump (from + length held + 1 + length other)) ++ other)
branches_code false from held other = held

-- how long the `yes` code is with its jump
abbrev pub held_length : Bool → ℕ → ℕ
held_length true n = n + 1
held_length false n = n

-- the code of statements from a place in the task's code on, with the counters of their loops
abbrev mutual
  pub block_code : Block → List Var → ℕ → Counters → List Line
  block_code done vars from counters = []
  block_code (next s rest) vars from counters =
      let first = stmt_code s vars from counters in
      first ++ block_code rest vars (from + length first) (behind counters (stmt_loops s))

  pub stmt_code : Stmt → List Var → ℕ → Counters → List Line
  stmt_code (item id act) vars from counters = act_code act vars from (counter_of counters id)
  stmt_code (choice id test held other) vars from counters =
      let before = expr_code test vars 0 in
      let yes_at = from + length before + 1 in
      let yes = block_code held vars yes_at counters in
      let no_at = yes_at + held_length (has_statement other) (length yes) in
      let no = block_code other vars no_at (behind counters (loops held)) in
      before ++ (at 1 (Branch no_at) ++ branches_code (has_statement other) yes_at yes no)
  stmt_code (timed id window body) vars from counters =
      let hold = hold_code (hold_of window body) in
      hold ++ block_code body vars (from + length hold) counters

  pub act_code : Act → List Var → ℕ → ℕ → List Line
  act_code (assign v e) vars from counter = expr_code e vars 0 ++ at 1 (Put (place vars v))
  act_code (assign_at v i e) vars from counter =
      expr_code i vars 0 ++ (expr_code e vars 1 ++ at 2 (PutAt (place vars v) (width vars v)))
  act_code (receive v port) vars from counter = at 0 (Receive port (place vars v))
  act_code (send e port) vars from counter = expr_code e vars 0 ++ at 1 (Send port)
  act_code (copy a b) vars from counter = at 0 (Copy (place vars a) (place vars b) (width vars a))
  act_code (for_loop v turns body) vars from counter =
      at 0 (Const (pos 0))
      ++ (at 1 (Put counter)
      ++ (at 0 (Get counter)
      ++ (at 1 (Put (place vars v))
      ++ (block_code body vars (from + 4) (in_order (counter + 1))
      ++ at 0 (Loop counter turns (from + 2))))))
  act_code (while_loop test turns body) vars from counter =
      let before = expr_code test vars 0 in
      let body_at = from + 2 + length before + 1 in
      let inner = block_code body vars body_at (in_order (counter + 1)) in
      at 0 (Const (pos 0))
      ++ (at 1 (Put counter)
      ++ (before
      ++ (at 1 (Branch (body_at + length inner + 1))
      ++ (inner
      ++ at 0 (Loop counter turns (from + 2))))))

-- the code of a frame: its first part, the mark, its rest and the end
abbrev pub frame_code : Block → Block → List Var → Counters → List Line
frame_code first rest vars counters =
    let before = block_code first vars 0 counters in
    before ++ (at 0 Mark ++ (block_code rest vars (length before + 1) counters ++ at 0 End))

-- the code of a frame of a task that is not sliced
abbrev pub whole_code : Block → List Var → List Line
whole_code body vars = frame_code body done vars (counters_of body vars)
