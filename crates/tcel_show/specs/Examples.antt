-- Worked examples of canonical text.
use Rattle.std.specs.Prelude.{ℕ, pos, negsuc, true, false, List, [], ◌∷◌, ◌++◌, Some, None, codes, flat_map}
use Rattle.tcel_num.specs.declared.op.Op.{Op}
use Rattle.tcel_tree.specs.declared.placed.Placed.{Placed}
use Rattle.tcel_tree.specs.declared.task.Decl.{Decl}
use Rattle.tcel_tree.specs.declared.task.DeclKind.{DeclKind}
use Rattle.tcel_tree.specs.Language.{Expr, number, truth, variable, element, unary, binary, Block, done, next, Stmt, assign, assign_at, receive, send, choice, for_loop, while_loop, timed, absent, present, Task}
use Rattle.tcel_tree.specs.Unplaced.{nowhere}
use Rattle.tcel_show.specs.Canonical.{stmt_tokens}
use Rattle.tcel_show.specs.Layout.{start, laid}

abbrev pub n : ℕ → Expr
n value = number nowhere (pos value)

abbrev pub x : Expr
x = variable nowhere (codes "x")

abbrev pub two : Op → Expr → Expr → Expr
two op a b = binary nowhere op a b

abbrev pub neg : Expr → Expr
neg e = unary nowhere Op.Neg e

abbrev pub to_x : Expr → Stmt
to_x e = assign nowhere (codes "x") e

abbrev pub placed : ℕ → Placed
placed value = record { value = pos value; at = nowhere }

abbrev pub one : Stmt → Block
one s = next s done

-- a statement alone
abbrev pub stmt_text : Stmt → List ℕ
stmt_text s = laid start (stmt_tokens s)

abbrev pub lines : List (List ℕ) → List ℕ
lines ls = flat_map (λ line. line ++ 10 ∷ []) ls

-- statements and how they are written
abbrev pub statements : List (Stmt × List ℕ)
statements =
    (to_x (two Op.Sub (two Op.Sub (n 1) (n 2)) (n 3)), codes "x := 1 - 2 - 3;")
    ∷ (to_x (two Op.Sub (n 1) (two Op.Sub (n 2) (n 3))), codes "x := 1 - (2 - 3);")
    ∷ (to_x (neg (neg (n 1))), codes "x := -(-1);")
    ∷ (to_x (two Op.Add x (neg (n 1))), codes "x := x + -1;")
    ∷ (to_x (neg (two Op.Mul (n 1) (n 2))), codes "x := -(1 * 2);")
    ∷ (to_x (two Op.Mul (neg (n 1)) (n 2)), codes "x := -1 * 2;")
    ∷ (to_x (two Op.Div (n 8) (two Op.Rem (n 4) (n 2))), codes "x := 8 / (4 % 2);")
    ∷ (to_x (two Op.Or (two Op.And (truth nowhere true) (unary nowhere Op.Not x)) (truth nowhere false)), codes "x := true and not x or false;")
    ∷ (to_x (two Op.And (truth nowhere true) (two Op.Or x x)), codes "x := true and (x or x);")
    ∷ (to_x (two Op.Equal (two Op.Less (n 1) (n 2)) (two Op.GreaterOrEqual (n 3) x)), codes "x := (1 < 2) == (3 >= x);")
    ∷ (assign_at nowhere (codes "a") (neg x) (element nowhere (codes "a") (two Op.Sub x (n 1))), codes "a[-x] := a[x - 1];")
    ∷ (send nowhere (two Op.Mul (two Op.Add (n 1) (n 2)) (n 3)) (codes "o") nowhere, codes "send (1 + 2) * 3 to o;")
    ∷ (receive nowhere (codes "x") nowhere (codes "s") nowhere, codes "receive x from s;")
    ∷ (choice nowhere x done (present done), codes "if x {\n} else {\n}")
    ∷ (choice nowhere (truth nowhere true) (one (to_x (n 0))) absent, codes "if true {\n  x := 0;\n}")
    ∷ (for_loop nowhere (codes "i") nowhere (placed 3) (one (while_loop nowhere x (placed 4) done)), codes "for i < 3 {\n  while x limit 4 {\n  }\n}")
    ∷ (timed nowhere (record { after = Some (placed 1); before = None; within = Some (placed 3) }) done, codes "do start after 1 finish within 3 {\n}")
    ∷ []

abbrev pub decl : DeclKind → List ℕ → Decl
decl kind name = record { kind = kind; name = name; at = nowhere }

-- a task with a declaration of each form
abbrev pub task : Task
task =
    record {
      name = codes "t";
      at = nowhere;
      priority = placed 1;
      decls =
          decl DeclKind.Input (codes "s") ∷ decl DeclKind.Output (codes "o")
          ∷ decl (DeclKind.Int true (Some (negsuc 4))) (codes "n") ∷ decl (DeclKind.Int true (Some (pos 0))) (codes "m")
          ∷ decl (DeclKind.Bool true (Some true)) (codes "b") ∷ decl (DeclKind.Array true (placed 3)) (codes "a")
          ∷ decl (DeclKind.Int false None) (codes "x") ∷ decl (DeclKind.Bool false None) (codes "c")
          ∷ decl (DeclKind.Array false (placed 2)) (codes "d") ∷ [];
      period = placed 9;
      finish = Some (placed 8);
      body = one (to_x (n 7));
    }

abbrev pub task_text : List ℕ
task_text =
    lines
    (codes "task t priority 1 {" ∷ codes "  input s;" ∷ codes "  output o;" ∷ codes "  state int n = -5;" ∷ codes "  state int m = 0;"
    ∷ codes "  state bool b = true;" ∷ codes "  state int a[3];" ∷ codes "  local int x;" ∷ codes "  local bool c;" ∷ codes "  local int d[2];"
    ∷ codes "  every 9 finish within 8 {" ∷ codes "    x := 7;" ∷ codes "  }" ∷ codes "}" ∷ [])
