-- The plain data that expressions, bodies, tasks and sets stand for.
use Rattle.std.specs.Prelude.{List, [], ◌∷◌, map}
use Rattle.tcel_core.specs.declared.expr.CoreExpr.{CoreExpr, CoreExpr-F, fold-CoreExpr}
use Rattle.tcel_core.specs.declared.body.Body.{Body, Body-F, fold-Body}
use Rattle.tcel_core.specs.declared.body.CoreStmt.{CoreStmt, CoreStmt-F, fold-CoreStmt}
use Rattle.tcel_core.specs.declared.body.Item.{Item, Item-F, fold-Item}
use Rattle.tcel_core.specs.declared.set.CoreTask.{CoreTask}
use Rattle.tcel_core.specs.declared.set.Set.{Set}
use Rattle.tcel_core.specs.Language.{Expr, number, variable, element, unary, binary, Block, done, next, Stmt, item, choice, timed, Act, assign, assign_at, receive, send, for_loop, while_loop, copy, Task}

-- one level of an expression, with its operands already plain
abbrev pub expr_step : CoreExpr-F Expr → Expr
expr_step (CoreExpr-F.Number n) = number n
expr_step (CoreExpr-F.Var v) = variable v
expr_step (CoreExpr-F.Index v i) = element v i
expr_step (CoreExpr-F.Unary op e) = unary op e
expr_step (CoreExpr-F.Binary op a b) = binary op a b

-- an expression
abbrev pub plain_expr : CoreExpr → Expr
plain_expr = fold-CoreExpr Expr expr_step

-- the statements of a list, one after another
abbrev pub block_of : List Stmt → Block
block_of [] = done
block_of (s ∷ ss) = next s (block_of ss)

-- one level of a statement, with what it holds already plain
abbrev pub stmt_step : CoreStmt-F Stmt Act Block → Stmt
stmt_step (CoreStmt-F.Item id act) = item id act
stmt_step (CoreStmt-F.If id test held other) = choice id (plain_expr test) held other
stmt_step (CoreStmt-F.Do id after before within body) =
    timed id (record { after = after; before = before; within = within }) body

-- one level of an item
abbrev pub item_step : Item-F Stmt Act Block → Act
item_step (Item-F.Assign v e) = assign v (plain_expr e)
item_step (Item-F.AssignAt v i e) = assign_at v (plain_expr i) (plain_expr e)
item_step (Item-F.Receive v port) = receive v port
item_step (Item-F.Send e port) = send (plain_expr e) port
item_step (Item-F.For v turns body) = for_loop v turns body
item_step (Item-F.While test turns body) = while_loop (plain_expr test) turns body
item_step (Item-F.Copy from to) = copy from to

-- one level of a body
abbrev pub body_step : Body-F Stmt Act Block → Block
body_step b = block_of b.list

-- a statement
abbrev pub plain_stmt : CoreStmt → Stmt
plain_stmt = fold-CoreStmt Stmt Act Block stmt_step item_step body_step

-- an item
abbrev pub plain_item : Item → Act
plain_item = fold-Item Stmt Act Block stmt_step item_step body_step

-- a body
abbrev pub plain_body : Body → Block
plain_body = fold-Body Stmt Act Block stmt_step item_step body_step

-- a task
abbrev pub plain_task : CoreTask → Task
plain_task t =
    record {
      name = t.name;
      priority = t.priority;
      period = t.period;
      deadline = t.finish;
      vars = t.vars;
      inputs = t.inputs;
      outputs = t.outputs;
      body = plain_body t.body;
    }

-- a set, in falling priority
abbrev pub plain_set : Set → List Task
plain_set s = map plain_task s.tasks
