-- How many lines the code of statements has at most.
use Rattle.std.specs.Prelude.{ℕ, ◌+◌}
use Rattle.tcel_core.specs.Language.{Block, done, next, Stmt, item, choice, timed, Act, assign, assign_at, receive, send, for_loop, while_loop, copy}
use Rattle.tcel_core.specs.Limits.{expr_nodes}

abbrev mutual
  pub size : Block → ℕ
  size done = 0
  size (next s rest) = stmt_size s + size rest

  pub stmt_size : Stmt → ℕ
  stmt_size (item id act) = act_size act
  stmt_size (choice id test held other) = expr_nodes test + 2 + size held + size other
  stmt_size (timed id window body) = 1 + size body

  pub act_size : Act → ℕ
  act_size (assign v e) = expr_nodes e + 1
  act_size (assign_at v i e) = expr_nodes i + expr_nodes e + 1
  act_size (receive v port) = 1
  act_size (send e port) = expr_nodes e + 1
  act_size (for_loop v turns body) = 5 + size body
  act_size (while_loop test turns body) = 4 + expr_nodes test + size body
  act_size (copy a b) = 1
