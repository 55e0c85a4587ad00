-- Programs as plain data. Variables, ports and statements go by their numbers.
use Rattle.std.specs.Prelude.{ℕ, ℤ, List, Option}
use Rattle.tcel_num.specs.declared.op.Op.{Op}
use Rattle.tcel_core.specs.declared.var.Var.{Var}

-- an expression
pub data Expr : Type 0 where
  number : ℤ → Expr
  variable : ℕ → Expr
  element : ℕ → Expr → Expr
  unary : Op → Expr → Expr
  binary : Op → Expr → Expr → Expr

-- the clauses of a `do` block, each a time after the release: `start after`, `start before`, `finish within`
pub record Window : Type 0 where
  pub after : Option ℕ
  pub before : Option ℕ
  pub within : Option ℕ

mutual
  -- statements, one after another
  pub data Block : Type 0 where
    done : Block
    next : Stmt → Block → Block

  -- an item, an `if` with its two branches, or a `do` block
  pub data Stmt : Type 0 where
    item : ℕ → Act → Stmt
    choice : ℕ → Expr → Block → Block → Stmt
    timed : ℕ → Window → Block → Stmt

  -- what an item does: a loop has its variable or test, its turns and its body
  pub data Act : Type 0 where
    assign : ℕ → Expr → Act
    assign_at : ℕ → Expr → Expr → Act
    receive : ℕ → ℕ → Act
    send : Expr → ℕ → Act
    for_loop : ℕ → ℕ → Block → Act
    while_loop : Expr → ℕ → Block → Act
    copy : ℕ → ℕ → Act

-- one block's statements and then the other's
abbrev pub joined : Block → Block → Block
joined done b = b
joined (next s rest) b = next s (joined rest b)

-- a task: names are bytes, the period and the deadline of its frames are ticks
pub record Task : Type 0 where
  pub name : List ℕ
  pub priority : ℕ
  pub period : ℕ
  pub deadline : ℕ
  pub vars : List Var
  pub inputs : List (List ℕ)
  pub outputs : List (List ℕ)
  pub body : Block
