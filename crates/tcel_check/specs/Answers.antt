-- What a check answers, and of which programs the set is sound.
use Rattle.std.specs.Prelude.{◌≡◌, ℕ, ◌+◌, ◌≤◌, true, false, List, [], ◌∷◌, ◌++◌, length, Result, Ok, Err, Some, All, flat_map}
use Rattle.tcel_num.specs.Arithmetic.{is_unary}
use Rattle.tcel_core.specs.declared.set.Set.{Set}
use Rattle.tcel_core.specs.Plain.{plain_set}
use Rattle.tcel_tree.specs.Language.{Expr, number, truth, variable, element, unary, binary, Block, done, next, Stmt, assign, assign_at, receive, send, choice, for_loop, while_loop, timed, Branch, absent, present, Task}
use Rattle.tcel_check.specs.declared.fail.CheckFail.{CheckFail}
use Rattle.tcel_check.specs.Checked.{set_of}
use Rattle.tcel_check.specs.Marks.{IsFirst, fault, limit}
use Rattle.tcel_check.specs.Rows.{marks}

-- the operators of an expression, those in indexes too
abbrev pub operators : Expr → ℕ
operators (number at n) = 0
operators (truth at b) = 0
operators (variable at x) = 0
operators (element at x i) = operators i
operators (unary at op e) = 1 + operators e
operators (binary at op a b) = 1 + (operators a + operators b)

-- each operator takes as many operands as it has
abbrev pub HaveOperands : Expr → Type 0
HaveOperands (number at n) = Unit {0}
HaveOperands (truth at b) = Unit {0}
HaveOperands (variable at x) = Unit {0}
HaveOperands (element at x i) = HaveOperands i
HaveOperands (unary at op e) = (is_unary op ≡ true) × HaveOperands e
HaveOperands (binary at op a b) = (is_unary op ≡ false) × HaveOperands a × HaveOperands b

pub record IsFitExpr (e : Expr) : Type 0 where
  pub few : operators e ≤ 64
  pub operands : HaveOperands e

-- the outermost expressions of statements
abbrev mutual
  pub block_exprs : Block → List Expr
  block_exprs done = []
  block_exprs (next s rest) = stmt_exprs s ++ block_exprs rest

  pub stmt_exprs : Stmt → List Expr
  stmt_exprs (assign at x e) = e ∷ []
  stmt_exprs (assign_at at x i e) = i ∷ e ∷ []
  stmt_exprs (receive at x x_at port port_at) = []
  stmt_exprs (send at e port port_at) = e ∷ []
  stmt_exprs (choice at test held other) = test ∷ (block_exprs held ++ branch_exprs other)
  stmt_exprs (for_loop at x x_at turns body) = block_exprs body
  stmt_exprs (while_loop at test turns body) = test ∷ block_exprs body
  stmt_exprs (timed at w body) = block_exprs body

  pub branch_exprs : Branch → List Expr
  branch_exprs absent = []
  branch_exprs (present body) = block_exprs body

-- it has a task, and its expressions are as a text can have them
pub record IsCheckable (tasks : List Task) : Type 0 where
  pub some : 1 ≤ length tasks
  pub exprs : All IsFitExpr (flat_map (λ (t : Task). block_exprs t.body) tasks)

-- the set where no fault and no limit stands in the program, and else the first of them
abbrev pub Answers : List Task → Result Set CheckFail → Type 0
Answers tasks (Ok set) = (marks tasks ≡ []) × (plain_set set ≡ set_of tasks)
Answers tasks (Err (CheckFail.Fault kind at)) = IsFirst (marks tasks) (Some (fault kind at))
Answers tasks (Err (CheckFail.Limit kind at)) = IsFirst (marks tasks) (Some (limit kind at))
Answers tasks (Err CheckFail.NoMemory) = Unit {0}
