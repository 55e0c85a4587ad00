-- Programs on which the table of faults and the core tasks are worked out.
use Rattle.std.specs.Prelude.{ℕ, zero, suc, ◌+◌, pos, negsuc, true, false, List, [], ◌∷◌, Option, Some, None, codes, replicate, map}
use Rattle.tcel_num.specs.declared.at.At.{At}
use Rattle.tcel_num.specs.declared.op.Op.{Op}
use Rattle.tcel_core.specs.declared.var.Keep.{Keep}
use Rattle.tcel_core.specs.declared.var.Var.{Var}
use Rattle.tcel_core.specs.declared.var.VarKind.{VarKind}
use Rattle.tcel_core.specs.Language as core
use Rattle.tcel_core.specs.Numbering.{numbers_from}
use Rattle.tcel_tree.specs.declared.placed.Placed.{Placed}
use Rattle.tcel_tree.specs.declared.stmt.Window.{Window}
use Rattle.tcel_tree.specs.declared.task.Decl.{Decl}
use Rattle.tcel_tree.specs.declared.task.DeclKind.{DeclKind}
use Rattle.tcel_tree.specs.Language.{Expr, number, truth, variable, binary, Block, done, next, Stmt, assign, assign_at, receive, send, choice, for_loop, while_loop, timed, absent, present, Task}
use Rattle.tcel_check.specs.declared.mark.Mark.{Mark}
use Rattle.tcel_check.specs.Rows.{task_marks}

-- places on one line
abbrev pub at : ℕ → At
at column = record { line = 1; column = column }

abbrev pub placed : ℕ → ℕ → Placed
placed column value = record { value = pos value; at = at column }

abbrev pub decl : ℕ → List ℕ → DeclKind → Decl
decl column name kind = record { kind = kind; name = name; at = at column }

abbrev pub int_local : DeclKind
int_local = DeclKind.Int false None

-- input s; output o; state int n = -5; local bool b; local int a[4];
abbrev pub five_names : List Decl
five_names =
    decl 11 (codes "s") DeclKind.Input
    ∷ decl 12 (codes "o") DeclKind.Output
    ∷ decl 13 (codes "n") (DeclKind.Int true (Some (negsuc 4)))
    ∷ decl 14 (codes "b") (DeclKind.Bool false None)
    ∷ decl 15 (codes "a") (DeclKind.Array false (placed 16 4))
    ∷ []

-- a task, its name at column 1, its priority at 2 and its period at 3
abbrev pub task : List ℕ → ℕ → List Decl → ℕ → Block → Task
task name priority decls period body =
    record {
      name = name;
      at = at 1;
      priority = placed 2 priority;
      decls = decls;
      period = placed 3 period;
      finish = None;
      body = body;
    }

abbrev pub one : Stmt → Block
one s = next s done

-- what is wrong with a statement of a task with these five names
abbrev pub found : Stmt → List Mark
found s = task_marks (task (codes "t") 1 five_names 9 (one s))

abbrev pub declared : List Decl → List Mark
declared decls = task_marks (task (codes "t") 1 decls 9 done)

abbrev pub x : ℕ → List ℕ → Expr
x column name = variable (at column) name

abbrev pub n : ℕ → Expr
n column = x column (codes "n")

abbrev pub b : ℕ → Expr
b column = x column (codes "b")

abbrev pub num : ℕ → ℕ → Expr
num column value = number (at column) (pos value)

-- statements at column 30
abbrev pub to : List ℕ → Expr → Stmt
to name e = assign (at 30) name e

abbrev pub to_at : List ℕ → Expr → Expr → Stmt
to_at name i e = assign_at (at 30) name i e

abbrev pub take_in : List ℕ → List ℕ → Stmt
take_in name port = receive (at 30) name (at 31) port (at 32)

abbrev pub put_out : Expr → List ℕ → Stmt
put_out e port = send (at 30) e port (at 39)

abbrev pub test : Expr → Stmt
test e = choice (at 30) e done absent

abbrev pub loop_of : List ℕ → ℕ → Block → Stmt
loop_of name turns body = for_loop (at 30) name (at 31) (placed 32 turns) body

abbrev pub repeat : Expr → Block → Stmt
repeat e body = while_loop (at 33) e (placed 34 7) body

abbrev pub clauses : Option Placed → Option Placed → Option Placed → Window
clauses after before within = record { after = after; before = before; within = within }

abbrev pub do_block : Window → Block → Stmt
do_block w body = timed (at 40) w body

-- so many loops around a statement, the innermost at column 51
abbrev pub loops : ℕ → Stmt → Stmt
loops zero s = s
loops (suc k) s = for_loop (at (51 + k)) (codes "n") (at 61) (placed 62 2) (one (loops k s))

-- so many declarations of one name, at columns 100, 101, and so on
abbrev pub same_ports : ℕ → List Decl
same_ports count = map (λ i. decl (100 + i) (codes "p") DeclKind.Output) (numbers_from 0 count)

abbrev pub arrays : List ℕ → List Decl
arrays [] = []
arrays (size ∷ sizes) = decl 70 (codes "a") (DeclKind.Array true (placed 71 size)) ∷ arrays sizes

-- so many empty `do` blocks, at columns 1000, 1001, and so on
abbrev pub blocks_at : List ℕ → Block
blocks_at [] = done
blocks_at (i ∷ is) = next (timed (at (1000 + i)) (clauses None None None) done) (blocks_at is)

abbrev pub blocks : ℕ → Block
blocks count = blocks_at (numbers_from 0 count)

-- so many tasks, each with a name and a priority of its own
abbrev pub tasks_to : ℕ → List Task
tasks_to count =
    map
    (λ i. record (task (replicate (1 + i) 116) (1 + i) [] 9 done) { at = at (100 + i); priority = placed (200 + i) (1 + i) })
    (numbers_from 0 count)

-- local int x; state int n = -5; input s; output o; state bool f = true; local int a[3]; input r;
abbrev pub seven_names : List Decl
seven_names =
    decl 11 (codes "x") int_local
    ∷ decl 12 (codes "n") (DeclKind.Int true (Some (negsuc 4)))
    ∷ decl 13 (codes "s") DeclKind.Input
    ∷ decl 14 (codes "o") DeclKind.Output
    ∷ decl 15 (codes "f") (DeclKind.Bool true (Some true))
    ∷ decl 16 (codes "a") (DeclKind.Array false (placed 17 3))
    ∷ decl 18 (codes "r") DeclKind.Input
    ∷ []

-- receive x from r; if f { a[1] := x; } else { do start after 4 { send n to o; } } for x < 3 { n := n + 2; if f { } } do { f := false; }
abbrev pub numbered_body : Block
numbered_body =
    next (take_in (codes "x") (codes "r"))
    (next
    (choice (at 33) (x 34 (codes "f")) (one (to_at (codes "a") (num 35 1) (x 36 (codes "x"))))
    (present (one (do_block (clauses (Some (placed 41 4)) None None) (one (put_out (n 37) (codes "o")))))))
    (next (loop_of (codes "x") 3 (next (to (codes "n") (binary (at 38) Op.Add (n 39) (num 42 2))) (one (test (x 43 (codes "f"))))))
    (one (do_block (clauses None None None) (one (to (codes "f") (truth (at 44) false)))))))

-- two tasks, the lower one first
abbrev pub two_tasks : List Task
two_tasks =
    task (codes "t") 3 seven_names 9 numbered_body
    ∷ record (task (codes "u") 7 [] 20 done) { finish = Some (placed 4 15) }
    ∷ []

abbrev pub core_vars : List Var
core_vars =
    record { name = Some (codes "n"); kind = VarKind.Int; keep = Keep.State; first = negsuc 4 }
    ∷ record { name = Some (codes "f"); kind = VarKind.Bool; keep = Keep.State; first = pos 1 }
    ∷ record { name = Some (codes "x"); kind = VarKind.Int; keep = Keep.Local; first = pos 0 }
    ∷ record { name = Some (codes "a"); kind = VarKind.Array 3; keep = Keep.Local; first = pos 0 }
    ∷ []

abbrev pub window_after : Option ℕ → core.Window
window_after after = record { after = after; before = None; within = None }

abbrev pub core_body : core.Block
core_body =
    core.next (core.item 0 (core.receive 2 1))
    (core.next
    (core.choice 0 (core.variable 1) (core.next (core.item 1 (core.assign_at 3 (core.number (pos 1)) (core.variable 2))) core.done)
    (core.next (core.timed 1 (window_after (Some 4)) (core.next (core.item 2 (core.send (core.variable 0) 0)) core.done)) core.done))
    (core.next
    (core.item 3
    (core.for_loop 2 3
    (core.next (core.item 0 (core.assign 0 (core.binary Op.Add (core.variable 0) (core.number (pos 2)))))
    (core.next (core.choice 0 (core.variable 1) core.done core.done) core.done))))
    (core.next (core.timed 2 (window_after None) (core.next (core.item 4 (core.assign 1 (core.number (pos 0)))) core.done)) core.done)))

abbrev pub two_core_tasks : List core.Task
two_core_tasks =
    record { name = codes "u"; priority = 7; period = 20; deadline = 15; vars = []; inputs = []; outputs = []; body = core.done }
    ∷ record {
      name = codes "t";
      priority = 3;
      period = 9;
      deadline = 9;
      vars = core_vars;
      inputs = codes "s" ∷ codes "r" ∷ [];
      outputs = codes "o" ∷ [];
      body = core_body;
    }
    ∷ []
