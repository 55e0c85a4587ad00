-- What the limits of a program count, and the bounds of its numbers.
use Rattle.std.specs.Prelude.{ℕ, ◌+◌, ◌≤◌, ◌^◌, max, IfSome}
use Rattle.tcel_core.specs.Language.{Expr, number, variable, element, unary, binary, Window, Block, done, next, Stmt, item, choice, timed, Act, assign, assign_at, receive, send, for_loop, while_loop, copy}

-- each expression is a node
abbrev pub expr_nodes : Expr → ℕ
expr_nodes (number n) = 1
expr_nodes (variable v) = 1
expr_nodes (element v i) = 1 + expr_nodes i
expr_nodes (unary op e) = 1 + expr_nodes e
expr_nodes (binary op a b) = 1 + (expr_nodes a + expr_nodes b)

-- each statement and each expression is a node
abbrev mutual
  pub nodes : Block → ℕ
  nodes done = 0
  nodes (next s rest) = stmt_nodes s + nodes rest

  pub stmt_nodes : Stmt → ℕ
  stmt_nodes (item id act) = 1 + act_nodes act
  stmt_nodes (choice id test held other) = 1 + (expr_nodes test + (nodes held + nodes other))
  stmt_nodes (timed id window body) = 1 + nodes body

  pub act_nodes : Act → ℕ
  act_nodes (assign v e) = expr_nodes e
  act_nodes (assign_at v i e) = expr_nodes i + expr_nodes e
  act_nodes (receive v port) = 0
  act_nodes (send e port) = expr_nodes e
  act_nodes (for_loop v n body) = nodes body
  act_nodes (while_loop test n body) = expr_nodes test + nodes body
  act_nodes (copy from to) = 0

-- the operators of an expression, those in indexes too
abbrev pub operators : Expr → ℕ
operators (number n) = 0
operators (variable v) = 0
operators (element v i) = operators i
operators (unary op e) = 1 + operators e
operators (binary op a b) = 1 + (operators a + operators b)

-- how many loops stand in one another at the most
abbrev mutual
  pub loop_depth : Block → ℕ
  loop_depth done = 0
  loop_depth (next s rest) = max (stmt_loop_depth s) (loop_depth rest)

  pub stmt_loop_depth : Stmt → ℕ
  stmt_loop_depth (item id act) = act_loop_depth act
  stmt_loop_depth (choice id test held other) = max (loop_depth held) (loop_depth other)
  stmt_loop_depth (timed id window body) = loop_depth body

  pub act_loop_depth : Act → ℕ
  act_loop_depth (for_loop v n body) = 1 + loop_depth body
  act_loop_depth (while_loop test n body) = 1 + loop_depth body
  act_loop_depth _ = 0

-- a time: 1 to 10^9 ticks
pub record IsTime (n : ℕ) : Type 0 where
  pub some : 1 ≤ n
  pub most : n ≤ 10 ^ 9

-- turns of a loop, or an array's length: 1 to 4,096
pub record IsCount (n : ℕ) : Type 0 where
  pub some : 1 ≤ n
  pub most : n ≤ 4096

-- each clause that is there is a time
abbrev pub IsBounded : Window → Type 0
IsBounded w = IfSome w.after IsTime × IfSome w.before IsTime × IfSome w.within IsTime

-- an outermost expression has at most 64 operators, a window's clauses are times, and loops have counts of turns
abbrev mutual
  pub IsWithinBounds : Block → Type 0
  IsWithinBounds done = Unit {0}
  IsWithinBounds (next s rest) = StmtIsWithinBounds s × IsWithinBounds rest

  pub StmtIsWithinBounds : Stmt → Type 0
  StmtIsWithinBounds (item id act) = ActIsWithinBounds act
  StmtIsWithinBounds (choice id test held other) = (operators test ≤ 64) × IsWithinBounds held × IsWithinBounds other
  StmtIsWithinBounds (timed id window body) = IsBounded window × IsWithinBounds body

  pub ActIsWithinBounds : Act → Type 0
  ActIsWithinBounds (assign v e) = operators e ≤ 64
  ActIsWithinBounds (assign_at v i e) = (operators i ≤ 64) × (operators e ≤ 64)
  ActIsWithinBounds (receive v port) = Unit {0}
  ActIsWithinBounds (send e port) = operators e ≤ 64
  ActIsWithinBounds (for_loop v n body) = IsCount n × IsWithinBounds body
  ActIsWithinBounds (while_loop test n body) = (operators test ≤ 64) × IsCount n × IsWithinBounds body
  ActIsWithinBounds (copy from to) = Unit {0}
