-- The plain data that trees stand for.
use Rattle.std.specs.Prelude.{List, [], ◌∷◌, map, Option, Some, None}
use Rattle.tcel_num.specs.declared.at.At.{At}
use Rattle.tcel_tree.specs.declared.expr.Expr as tree_expr
use Rattle.tcel_tree.specs.declared.expr.Expr.{Expr-F, fold-Expr}
use Rattle.tcel_tree.specs.declared.expr.ExprKind.{ExprKind, ExprKind-F, fold-ExprKind}
use Rattle.tcel_tree.specs.declared.stmt.Stmt as tree_stmt
use Rattle.tcel_tree.specs.declared.stmt.Stmt.{Stmt-F, fold-Stmt}
use Rattle.tcel_tree.specs.declared.stmt.StmtKind.{StmtKind, StmtKind-F, fold-StmtKind}
use Rattle.tcel_tree.specs.declared.task.Program.{Program}
use Rattle.tcel_tree.specs.declared.task.Task as tree_task
use Rattle.tcel_tree.specs.Language.{Expr, number, truth, variable, element, unary, binary, Block, done, next, Stmt, assign, assign_at, receive, send, choice, for_loop, while_loop, timed, Branch, absent, present, Task}

-- what an expression is, once its place is known
abbrev pub kind_step : ExprKind-F (At → Expr) Expr → At → Expr
kind_step (ExprKind-F.Number n) at = number at n
kind_step (ExprKind-F.Truth b) at = truth at b
kind_step (ExprKind-F.Var name) at = variable at name
kind_step (ExprKind-F.Index name i) at = element at name i
kind_step (ExprKind-F.Unary op e) at = unary at op e
kind_step (ExprKind-F.Binary op a b) at = binary at op a b

abbrev pub expr_step : Expr-F (At → Expr) Expr → Expr
expr_step e = e.what e.at

-- an expression
abbrev pub plain_expr : tree_expr.Expr → Expr
plain_expr = fold-Expr (At → Expr) Expr kind_step expr_step

-- what an expression is, at a place
abbrev pub placed_expr : ExprKind → At → Expr
placed_expr = fold-ExprKind (At → Expr) Expr kind_step expr_step

-- the statements of a list, one after another
abbrev pub block_of : List Stmt → Block
block_of [] = done
block_of (s ∷ ss) = next s (block_of ss)

-- what stands behind the block of an `if`
abbrev pub branch_of : Option (List Stmt) → Branch
branch_of None = absent
branch_of (Some ss) = present (block_of ss)

-- what a statement is, once its place is known
abbrev pub stmt_kind_step : StmtKind-F (At → Stmt) Stmt → At → Stmt
stmt_kind_step (StmtKind-F.Assign name value) at = assign at name (plain_expr value)
stmt_kind_step (StmtKind-F.AssignAt name index value) at = assign_at at name (plain_expr index) (plain_expr value)
stmt_kind_step (StmtKind-F.Receive name name_at port port_at) at = receive at name name_at port port_at
stmt_kind_step (StmtKind-F.Send value port port_at) at = send at (plain_expr value) port port_at
stmt_kind_step (StmtKind-F.If test held other) at = choice at (plain_expr test) (block_of held) (branch_of other)
stmt_kind_step (StmtKind-F.For name name_at turns body) at = for_loop at name name_at turns (block_of body)
stmt_kind_step (StmtKind-F.While test turns body) at = while_loop at (plain_expr test) turns (block_of body)
stmt_kind_step (StmtKind-F.Do window body) at = timed at window (block_of body)

abbrev pub stmt_step : Stmt-F (At → Stmt) Stmt → Stmt
stmt_step s = s.what s.at

-- a statement
abbrev pub plain_stmt : tree_stmt.Stmt → Stmt
plain_stmt = fold-Stmt (At → Stmt) Stmt stmt_kind_step stmt_step

-- what a statement is, at a place
abbrev pub placed_stmt : StmtKind → At → Stmt
placed_stmt = fold-StmtKind (At → Stmt) Stmt stmt_kind_step stmt_step

-- the statements of a list
abbrev pub plain_block : List tree_stmt.Stmt → Block
plain_block ss = block_of (map plain_stmt ss)

-- a task
abbrev pub plain_task : tree_task.Task → Task
plain_task t =
    record {
      name = t.name;
      at = t.at;
      priority = t.priority;
      decls = t.decls;
      period = t.period;
      finish = t.finish;
      body = plain_block t.body;
    }

-- a program: its tasks in text order
abbrev pub plain_program : Program → List Task
plain_program p = map plain_task p.tasks
