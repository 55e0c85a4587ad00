-- Expressions and statements as plain data, one level at a time.
use Rattle.std.proofs.Common.{rules, ◌≡◌, ℕ, ℤ, Bool, List, Option, map, option_map}
use Rattle.tcel_num.specs.declared.at.At.{At}
use Rattle.tcel_num.specs.declared.op.Op.{Op}
use Rattle.tcel_tree.specs.declared.expr.Expr as tree_expr
use Rattle.tcel_tree.specs.declared.expr.Expr.{the_lemmas as expr_lemmas}
use Rattle.tcel_tree.specs.declared.expr.ExprKind.{ExprKind-F, roll-ExprKind}
use Rattle.tcel_tree.specs.declared.placed.Placed.{Placed}
use Rattle.tcel_tree.specs.declared.stmt.Stmt as tree_stmt
use Rattle.tcel_tree.specs.declared.stmt.Stmt.{the_lemmas as stmt_lemmas}
use Rattle.tcel_tree.specs.declared.stmt.StmtKind.{StmtKind-F, roll-StmtKind}
use Rattle.tcel_tree.specs.declared.stmt.Window.{Window}
use Rattle.tcel_tree.specs.Language.{number, truth, variable, element, unary, binary, assign, assign_at, receive, send, choice, for_loop, while_loop, timed}
use Rattle.tcel_tree.specs.Plain.{plain_expr, placed_expr, plain_stmt, placed_stmt, plain_block, branch_of}

pub plain_expr-placed : (e : tree_expr.Expr) → plain_expr e ≡ placed_expr e.what e.at
plain_expr-placed e = search (rules, expr_lemmas)

pub placed_expr-number : (n : ℤ) (at : At) → placed_expr (roll-ExprKind (ExprKind-F.Number n)) at ≡ number at n
placed_expr-number n at = search (rules, expr_lemmas)

pub placed_expr-truth : (b : Bool) (at : At) → placed_expr (roll-ExprKind (ExprKind-F.Truth b)) at ≡ truth at b
placed_expr-truth b at = search (rules, expr_lemmas)

pub placed_expr-variable : (name : List ℕ) (at : At) → placed_expr (roll-ExprKind (ExprKind-F.Var name)) at ≡ variable at name
placed_expr-variable name at = search (rules, expr_lemmas)

pub placed_expr-element : (name : List ℕ) (i : tree_expr.Expr) (at : At) →
    placed_expr (roll-ExprKind (ExprKind-F.Index name i)) at ≡ element at name (plain_expr i)
placed_expr-element name i at = search (rules, expr_lemmas)

pub placed_expr-unary : (op : Op) (e : tree_expr.Expr) (at : At) →
    placed_expr (roll-ExprKind (ExprKind-F.Unary op e)) at ≡ unary at op (plain_expr e)
placed_expr-unary op e at = search (rules, expr_lemmas)

pub placed_expr-binary : (op : Op) (a b : tree_expr.Expr) (at : At) →
    placed_expr (roll-ExprKind (ExprKind-F.Binary op a b)) at ≡ binary at op (plain_expr a) (plain_expr b)
placed_expr-binary op a b at = search (rules, expr_lemmas)

pub plain_stmt-placed : (s : tree_stmt.Stmt) → plain_stmt s ≡ placed_stmt s.what s.at
plain_stmt-placed s = search (rules, stmt_lemmas)

pub placed_stmt-assign : (name : List ℕ) (e : tree_expr.Expr) (at : At) →
    placed_stmt (roll-StmtKind (StmtKind-F.Assign name e)) at ≡ assign at name (plain_expr e)
placed_stmt-assign name e at = search (rules, stmt_lemmas)

pub placed_stmt-assign_at : (name : List ℕ) (i e : tree_expr.Expr) (at : At) →
    placed_stmt (roll-StmtKind (StmtKind-F.AssignAt name i e)) at ≡ assign_at at name (plain_expr i) (plain_expr e)
placed_stmt-assign_at name i e at = search (rules, stmt_lemmas)

pub placed_stmt-receive : (name port : List ℕ) (name_at port_at at : At) →
    placed_stmt (roll-StmtKind (StmtKind-F.Receive name name_at port port_at)) at ≡ receive at name name_at port port_at
placed_stmt-receive name port name_at port_at at = search (rules, stmt_lemmas)

pub placed_stmt-send : (e : tree_expr.Expr) (port : List ℕ) (port_at at : At) →
    placed_stmt (roll-StmtKind (StmtKind-F.Send e port port_at)) at ≡ send at (plain_expr e) port port_at
placed_stmt-send e port port_at at = search (rules, stmt_lemmas)

pub placed_stmt-choice : (test : tree_expr.Expr) (held : List tree_stmt.Stmt) (other : Option (List tree_stmt.Stmt)) (at : At) →
    placed_stmt (roll-StmtKind (StmtKind-F.If test held other)) at
    ≡ choice at (plain_expr test) (plain_block held) (branch_of (option_map (map plain_stmt) other))
placed_stmt-choice test held other at = search (rules, stmt_lemmas)

pub placed_stmt-for : (name : List ℕ) (name_at : At) (turns : Placed) (body : List tree_stmt.Stmt) (at : At) →
    placed_stmt (roll-StmtKind (StmtKind-F.For name name_at turns body)) at ≡ for_loop at name name_at turns (plain_block body)
placed_stmt-for name name_at turns body at = search (rules, stmt_lemmas)

pub placed_stmt-while : (test : tree_expr.Expr) (turns : Placed) (body : List tree_stmt.Stmt) (at : At) →
    placed_stmt (roll-StmtKind (StmtKind-F.While test turns body)) at ≡ while_loop at (plain_expr test) turns (plain_block body)
placed_stmt-while test turns body at = search (rules, stmt_lemmas)

pub placed_stmt-timed : (window : Window) (body : List tree_stmt.Stmt) (at : At) →
    placed_stmt (roll-StmtKind (StmtKind-F.Do window body)) at ≡ timed at window (plain_block body)
placed_stmt-timed window body at = search (rules, stmt_lemmas)

-- the laws of this file
pub ruleset plain_forms = (
  plain_expr-placed,
  placed_expr-number,
  placed_expr-truth,
  placed_expr-variable,
  placed_expr-element,
  placed_expr-unary,
  placed_expr-binary,
  plain_stmt-placed,
  placed_stmt-assign,
  placed_stmt-assign_at,
  placed_stmt-receive,
  placed_stmt-send,
  placed_stmt-choice,
  placed_stmt-for,
  placed_stmt-while,
  placed_stmt-timed,
)
