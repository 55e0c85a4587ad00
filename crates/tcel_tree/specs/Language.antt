-- Programs as their texts state them, as plain data. Names are bytes. Expressions, statements and names have places.
use Rattle.std.specs.Prelude.{ℕ, ℤ, Bool, List, Option}
use Rattle.tcel_num.specs.declared.at.At.{At}
use Rattle.tcel_num.specs.declared.op.Op.{Op}
use Rattle.tcel_tree.specs.declared.placed.Placed.{Placed}
use Rattle.tcel_tree.specs.declared.stmt.Window.{Window}
use Rattle.tcel_tree.specs.declared.task.Decl.{Decl}

-- an expression, its place first
pub data Expr : Type 0 where
  number : At → ℤ → Expr
  truth : At → Bool → Expr
  variable : At → List ℕ → Expr
  element : At → List ℕ → Expr → Expr
  unary : At → Op → Expr → Expr
  binary : At → Op → Expr → Expr → Expr

mutual
  -- statements, one after another
  pub data Block : Type 0 where
    done : Block
    next : Stmt → Block → Block

  -- a statement, its place first; a name that is read or written beside it has a place of its own
  pub data Stmt : Type 0 where
    assign : At → List ℕ → Expr → Stmt
    assign_at : At → List ℕ → Expr → Expr → Stmt
    receive : At → List ℕ → At → List ℕ → At → Stmt
    send : At → Expr → List ℕ → At → Stmt
    choice : At → Expr → Block → Branch → Stmt
    for_loop : At → List ℕ → At → Placed → Block → Stmt
    while_loop : At → Expr → Placed → Block → Stmt
    timed : At → Window → Block → Stmt

  -- what stands behind the block of an `if`: nothing, or an else block
  pub data Branch : Type 0 where
    absent : Branch
    present : Block → Branch

-- a task, with the place of its name
pub record Task : Type 0 where
  pub name : List ℕ
  pub at : At
  pub priority : Placed
  pub decls : List Decl
  pub period : Placed
  pub finish : Option Placed
  pub body : Block
