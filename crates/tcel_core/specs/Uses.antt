-- Which variables an item reads and writes. A loop writes whatever is written in it, and reads whatever is read or written in it.
use Rattle.std.specs.Prelude.{◌≡◌, ℕ, Bool, false, ◌==◌, ◌||◌, List, filter}
use Rattle.tcel_core.specs.Numbering.{numbers_from}
use Rattle.tcel_core.specs.Language.{Expr, number, variable, element, unary, binary, Block, done, next, Stmt, item, choice, timed, Act, assign, assign_at, receive, send, for_loop, while_loop, copy}

-- whether a variable stands in an expression
abbrev pub expr_reads : Expr → ℕ → Bool
expr_reads (number n) v = false
expr_reads (variable x) v = x == v
expr_reads (element x i) v = (x == v) || expr_reads i v
expr_reads (unary op e) v = expr_reads e v
expr_reads (binary op a b) v = expr_reads a v || expr_reads b v

-- whether statements write a variable
abbrev mutual
  pub block_writes : Block → ℕ → Bool
  block_writes done v = false
  block_writes (next s rest) v = stmt_writes s v || block_writes rest v

  pub stmt_writes : Stmt → ℕ → Bool
  stmt_writes (item id act) v = act_writes act v
  stmt_writes (choice id test held other) v = block_writes held v || block_writes other v
  stmt_writes (timed id window body) v = block_writes body v

  pub act_writes : Act → ℕ → Bool
  act_writes (assign x e) v = x == v
  act_writes (assign_at x i e) v = x == v
  act_writes (receive x port) v = x == v
  act_writes (send e port) v = false
  act_writes (for_loop x turns body) v = (x == v) || block_writes body v
  act_writes (while_loop test turns body) v = block_writes body v
  act_writes (copy from to) v = to == v

-- whether statements read a variable; an assignment to an element reads its array
abbrev mutual
  pub block_reads : Block → ℕ → Bool
  block_reads done v = false
  block_reads (next s rest) v = stmt_reads s v || block_reads rest v

  pub stmt_reads : Stmt → ℕ → Bool
  stmt_reads (item id act) v = act_reads act v
  stmt_reads (choice id test held other) v = expr_reads test v || (block_reads held v || block_reads other v)
  stmt_reads (timed id window body) v = block_reads body v

  pub act_reads : Act → ℕ → Bool
  act_reads (assign x e) v = expr_reads e v
  act_reads (assign_at x i e) v = (x == v) || (expr_reads i v || expr_reads e v)
  act_reads (receive x port) v = false
  act_reads (send e port) v = expr_reads e v
  act_reads (for_loop x turns body) v = (x == v) || (block_writes body v || block_reads body v)
  act_reads (while_loop test turns body) v = expr_reads test v || (block_writes body v || block_reads body v)
  act_reads (copy from to) v = from == v

-- the variables of a task for which this holds, rising: a task has at most 256
pub record AreVariables (holds : ℕ → Bool) (list : List ℕ) : Type 0 where
  pub all : list ≡ filter holds (numbers_from 0 256)
