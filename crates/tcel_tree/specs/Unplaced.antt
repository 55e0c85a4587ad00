-- Trees without their places: two trees are equal but for places where these are equal.
use Rattle.std.specs.Prelude.{List, map, option_map}
use Rattle.tcel_num.specs.declared.at.At.{At}
use Rattle.tcel_tree.specs.declared.placed.Placed.{Placed}
use Rattle.tcel_tree.specs.declared.stmt.Window.{Window}
use Rattle.tcel_tree.specs.declared.task.Decl.{Decl}
use Rattle.tcel_tree.specs.declared.task.DeclKind.{DeclKind}
use Rattle.tcel_tree.specs.declared.task.DeclKind.TheVariants.{Input, Output, Int, Bool, Array}
use Rattle.tcel_tree.specs.Language.{Expr, number, truth, variable, element, unary, binary, Block, done, next, Stmt, assign, assign_at, receive, send, choice, for_loop, while_loop, timed, Branch, absent, present, Task}

-- the place that stands for none: lines and columns are counted from 1
abbrev pub nowhere : At
nowhere = record { line = 0; column = 0 }

abbrev pub unplaced : Placed → Placed
unplaced p = record { value = p.value; at = nowhere }

abbrev pub unplaced_expr : Expr → Expr
unplaced_expr (number at n) = number nowhere n
unplaced_expr (truth at b) = truth nowhere b
unplaced_expr (variable at name) = variable nowhere name
unplaced_expr (element at name i) = element nowhere name (unplaced_expr i)
unplaced_expr (unary at op e) = unary nowhere op (unplaced_expr e)
unplaced_expr (binary at op a b) = binary nowhere op (unplaced_expr a) (unplaced_expr b)

abbrev pub unplaced_window : Window → Window
unplaced_window w =
    record { after = option_map unplaced w.after; before = option_map unplaced w.before; within = option_map unplaced w.within }

abbrev mutual
  pub unplaced_block : Block → Block
  unplaced_block done = done
  unplaced_block (next s rest) = next (unplaced_stmt s) (unplaced_block rest)

  pub unplaced_stmt : Stmt → Stmt
  unplaced_stmt (assign at name value) = assign nowhere name (unplaced_expr value)
  unplaced_stmt (assign_at at name index value) = assign_at nowhere name (unplaced_expr index) (unplaced_expr value)
  unplaced_stmt (receive at name name_at port port_at) = receive nowhere name nowhere port nowhere
  unplaced_stmt (send at value port port_at) = send nowhere (unplaced_expr value) port nowhere
  unplaced_stmt (choice at test held other) = choice nowhere (unplaced_expr test) (unplaced_block held) (unplaced_branch other)
  unplaced_stmt (for_loop at name name_at turns body) = for_loop nowhere name nowhere (unplaced turns) (unplaced_block body)
  unplaced_stmt (while_loop at test turns body) = while_loop nowhere (unplaced_expr test) (unplaced turns) (unplaced_block body)
  unplaced_stmt (timed at window body) = timed nowhere (unplaced_window window) (unplaced_block body)

  pub unplaced_branch : Branch → Branch
  unplaced_branch absent = absent
  unplaced_branch (present body) = present (unplaced_block body)

abbrev pub unplaced_kind : DeclKind → DeclKind
unplaced_kind Input = Input
unplaced_kind Output = Output
unplaced_kind (Int state first) = Int state first
unplaced_kind (Bool state first) = Bool state first
unplaced_kind (Array state size) = Array state (unplaced size)

abbrev pub unplaced_decl : Decl → Decl
unplaced_decl d = record { kind = unplaced_kind d.kind; name = d.name; at = nowhere }

abbrev pub unplaced_task : Task → Task
unplaced_task t =
    record {
      name = t.name;
      at = nowhere;
      priority = unplaced t.priority;
      decls = map unplaced_decl t.decls;
      period = unplaced t.period;
      finish = option_map unplaced t.finish;
      body = unplaced_block t.body;
    }

abbrev pub unplaced_program : List Task → List Task
unplaced_program ts = map unplaced_task ts
