-- What stands in a task, in text order: each node, name, number, `do` and loop, with what the table of faults asks of it.
use Rattle.std.specs.Prelude.{ℕ, ◌+◌, ◌^◌, ℤ, List, [], ◌∷◌, ◌++◌, Option, Some, None, if◌then◌else◌, nat_lt, flat_map}
use Rattle.tcel_num.specs.declared.at.At.{At}
use Rattle.tcel_core.specs.Typing.{operand_type, result_type}
use Rattle.tcel_tree.specs.declared.placed.Placed.{Placed}
use Rattle.tcel_tree.specs.declared.stmt.Window.{Window}
use Rattle.tcel_tree.specs.declared.task.Decl.{Decl}
use Rattle.tcel_tree.specs.declared.task.DeclKind.{DeclKind}
use Rattle.tcel_tree.specs.declared.task.DeclKind.TheVariants.{Array}
use Rattle.tcel_tree.specs.Language.{Expr, number, truth, variable, element, unary, binary, Block, done, next, Stmt, assign, assign_at, receive, send, choice, for_loop, while_loop, timed, Branch, absent, present, Task}
use Rattle.tcel_check.specs.declared.purpose.Purpose.{Purpose}
use Rattle.tcel_check.specs.declared.purpose.Purpose.TheVariants.{Scalar, Element, From, To}
use Rattle.tcel_check.specs.declared.value_type.ValueType.{ValueType}
use Rattle.tcel_check.specs.Types.{named, type_of}

pub data Sight : Type 0 where
  -- a statement or an expression
  node : At → Sight
  -- a number as a value, and the type that is wanted there
  literal : At → ℤ → Option ValueType → Sight
  -- another value of a known type, and the type that is wanted there
  value : At → ValueType → Option ValueType → Sight
  -- a name, and what it is used for
  name : At → List ℕ → Purpose → Sight
  -- a `do`, and a `for` or `while`, inside this many loops
  window : At → ℕ → Sight
  loop : At → ℕ → Sight
  -- a number that is 1 or more, and this one at the most
  bound : Placed → ℕ → Sight

abbrev int : Option ValueType
int = Some ValueType.Int

abbrev bool : Option ValueType
bool = Some ValueType.Bool

-- of an expression where this type is wanted; an operator comes after its left operand
abbrev pub expr_sights : Expr → Option ValueType → List Sight
expr_sights (number at n) wanted = node at ∷ literal at n wanted ∷ []
expr_sights (truth at b) wanted = node at ∷ value at ValueType.Bool wanted ∷ []
expr_sights (variable at x) wanted = node at ∷ name at x (Scalar wanted) ∷ []
expr_sights (element at x i) wanted = node at ∷ name at x Element ∷ value at ValueType.Int wanted ∷ expr_sights i int
expr_sights (unary at op e) wanted = node at ∷ value at (named (result_type op)) wanted ∷ expr_sights e (Some (named (operand_type op)))
expr_sights (binary at op a b) wanted =
    expr_sights a (Some (named (operand_type op)))
    ++ (node at ∷ value at (named (result_type op)) wanted ∷ expr_sights b (Some (named (operand_type op))))

abbrev pub clause_sights : Option Placed → List Sight
clause_sights None = []
clause_sights (Some time) = bound time (10 ^ 9) ∷ []

abbrev pub window_sights : Window → List Sight
window_sights w = clause_sights w.after ++ (clause_sights w.before ++ clause_sights w.within)

-- one loop more stands around; behind three all count alike
abbrev pub inside : ℕ → ℕ
inside loops = if nat_lt loops 3 then loops + 1 else loops

-- of an assignment behind its node: the value has the variable's type
abbrev pub assigned_sights : At → List ℕ → Expr → (List ℕ → Option DeclKind) → List Sight
assigned_sights at x e kind = name at x (Scalar None) ∷ expr_sights e (type_of (kind x))

-- of statements inside this many loops, where names are declared so
abbrev mutual
  pub block_sights : Block → (List ℕ → Option DeclKind) → ℕ → List Sight
  block_sights done kind loops = []
  block_sights (next s rest) kind loops = stmt_sights s kind loops ++ block_sights rest kind loops

  pub stmt_sights : Stmt → (List ℕ → Option DeclKind) → ℕ → List Sight
  stmt_sights (assign at x e) kind loops = node at ∷ assigned_sights at x e kind
  stmt_sights (assign_at at x i e) kind loops = node at ∷ name at x Element ∷ (expr_sights i int ++ expr_sights e int)
  stmt_sights (receive at x x_at port port_at) kind loops = node at ∷ name x_at x (Scalar int) ∷ name port_at port From ∷ []
  stmt_sights (send at e port port_at) kind loops = node at ∷ (expr_sights e int ++ (name port_at port To ∷ []))
  stmt_sights (choice at test held other) kind loops =
      node at ∷ (expr_sights test bool ++ (block_sights held kind loops ++ branch_sights other kind loops))
  stmt_sights (for_loop at x x_at turns body) kind loops =
      node at ∷ loop at loops ∷ name x_at x (Scalar int) ∷ bound turns 4096 ∷ block_sights body kind (inside loops)
  stmt_sights (while_loop at test turns body) kind loops =
      node at ∷ loop at loops ∷ (expr_sights test bool ++ (bound turns 4096 ∷ block_sights body kind (inside loops)))
  stmt_sights (timed at w body) kind loops = node at ∷ window at loops ∷ (window_sights w ++ block_sights body kind loops)

  pub branch_sights : Branch → (List ℕ → Option DeclKind) → ℕ → List Sight
  branch_sights absent kind loops = []
  branch_sights (present body) kind loops = block_sights body kind loops

-- an array's length
abbrev pub length_sights : DeclKind → List Sight
length_sights (Array state size) = bound size 4096 ∷ []
length_sights _ = []

-- in front of a task's body
abbrev pub head_sights : Task → List Sight
head_sights t =
    bound t.priority 1000
    ∷ (flat_map (λ (d : Decl). length_sights d.kind) t.decls ++ (bound t.period (10 ^ 9) ∷ clause_sights t.finish))
