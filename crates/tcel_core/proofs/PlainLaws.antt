-- Expressions, statements, items and bodies as plain data, one level at a time.
use Rattle.std.proofs.Common.{rules, ◌≡◌, ℕ, ℤ, Option, map}
use Rattle.tcel_num.specs.declared.op.Op.{Op}
use Rattle.tcel_core.specs.declared.expr.CoreExpr.{CoreExpr, CoreExpr-F, roll-CoreExpr}
use Rattle.tcel_core.specs.declared.expr.CoreExpr.{the_lemmas as expr_lemmas}
use Rattle.tcel_core.specs.declared.body.Body.{Body}
use Rattle.tcel_core.specs.declared.body.CoreStmt.{CoreStmt-F, roll-CoreStmt}
use Rattle.tcel_core.specs.declared.body.CoreStmt.{the_lemmas as stmt_lemmas}
use Rattle.tcel_core.specs.declared.body.Item.{Item, Item-F, roll-Item}
use Rattle.tcel_core.specs.Language.{number, variable, element, unary, binary, Window, item, choice, timed, assign, assign_at, receive, send, for_loop, while_loop, copy}
use Rattle.tcel_core.specs.Plain.{plain_expr, plain_stmt, plain_item, plain_body, block_of}

pub plain_expr-number : (n : ℤ) → plain_expr (roll-CoreExpr (CoreExpr-F.Number n)) ≡ number n
plain_expr-number n = search (rules, expr_lemmas)

pub plain_expr-variable : (v : ℕ) → plain_expr (roll-CoreExpr (CoreExpr-F.Var v)) ≡ variable v
plain_expr-variable v = search (rules, expr_lemmas)

pub plain_expr-element : (v : ℕ) (i : CoreExpr) → plain_expr (roll-CoreExpr (CoreExpr-F.Index v i)) ≡ element v (plain_expr i)
plain_expr-element v i = search (rules, expr_lemmas)

pub plain_expr-unary : (op : Op) (e : CoreExpr) → plain_expr (roll-CoreExpr (CoreExpr-F.Unary op e)) ≡ unary op (plain_expr e)
plain_expr-unary op e = search (rules, expr_lemmas)

pub plain_expr-binary : (op : Op) (a b : CoreExpr) →
    plain_expr (roll-CoreExpr (CoreExpr-F.Binary op a b)) ≡ binary op (plain_expr a) (plain_expr b)
plain_expr-binary op a b = search (rules, expr_lemmas)

-- a body is its statements, one after another
pub plain_body-list : (b : Body) → plain_body b ≡ block_of (map plain_stmt b.list)
plain_body-list b = search (rules, stmt_lemmas)

pub plain_stmt-item : (id : ℕ) (act : Item) → plain_stmt (roll-CoreStmt (CoreStmt-F.Item id act)) ≡ item id (plain_item act)
plain_stmt-item id act = search (rules, stmt_lemmas)

pub plain_stmt-choice : (id : ℕ) (test : CoreExpr) (a b : Body) →
    plain_stmt (roll-CoreStmt (CoreStmt-F.If id test a b)) ≡ choice id (plain_expr test) (plain_body a) (plain_body b)
plain_stmt-choice id test a b = search (rules, stmt_lemmas)

pub plain_stmt-timed : (id : ℕ) (after before within : Option ℕ) (b : Body) →
    let window : Window = record { after = after; before = before; within = within } in
    plain_stmt (roll-CoreStmt (CoreStmt-F.Do id after before within b)) ≡ timed id window (plain_body b)
plain_stmt-timed id after before within b = search (rules, stmt_lemmas)

pub plain_item-assign : (v : ℕ) (e : CoreExpr) → plain_item (roll-Item (Item-F.Assign v e)) ≡ assign v (plain_expr e)
plain_item-assign v e = search (rules, stmt_lemmas)

pub plain_item-assign_at : (v : ℕ) (i e : CoreExpr) →
    plain_item (roll-Item (Item-F.AssignAt v i e)) ≡ assign_at v (plain_expr i) (plain_expr e)
plain_item-assign_at v i e = search (rules, stmt_lemmas)

pub plain_item-receive : (v port : ℕ) → plain_item (roll-Item (Item-F.Receive v port)) ≡ receive v port
plain_item-receive v port = search (rules, stmt_lemmas)

pub plain_item-send : (e : CoreExpr) (port : ℕ) → plain_item (roll-Item (Item-F.Send e port)) ≡ send (plain_expr e) port
plain_item-send e port = search (rules, stmt_lemmas)

pub plain_item-for : (v turns : ℕ) (b : Body) → plain_item (roll-Item (Item-F.For v turns b)) ≡ for_loop v turns (plain_body b)
plain_item-for v turns b = search (rules, stmt_lemmas)

pub plain_item-while : (test : CoreExpr) (turns : ℕ) (b : Body) →
    plain_item (roll-Item (Item-F.While test turns b)) ≡ while_loop (plain_expr test) turns (plain_body b)
plain_item-while test turns b = search (rules, stmt_lemmas)

pub plain_item-copy : (from to : ℕ) → plain_item (roll-Item (Item-F.Copy from to)) ≡ copy from to
plain_item-copy from to = search (rules, stmt_lemmas)

-- the laws of this file
pub ruleset plain_forms = (
  plain_expr-number,
  plain_expr-variable,
  plain_expr-element,
  plain_expr-unary,
  plain_expr-binary,
  plain_body-list,
  plain_stmt-item,
  plain_stmt-choice,
  plain_stmt-timed,
  plain_item-assign,
  plain_item-assign_at,
  plain_item-receive,
  plain_item-send,
  plain_item-for,
  plain_item-while,
  plain_item-copy,
)
