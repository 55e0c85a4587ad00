-- Which tasks are in scope: those that a checked program may have.
use Rattle.std.specs.Prelude.{◌≡◌, ℕ, ◌<◌, ◌^◌, true, false, List}
use Rattle.tcel_num.specs.Arithmetic.{is_unary}
use Rattle.tcel_core.specs.declared.var.Var.{Var}
use Rattle.tcel_core.specs.Cells.{all_words, place, width}
use Rattle.tcel_core.specs.Language.{Expr, number, variable, element, unary, binary, Block, done, next, Stmt, item, choice, timed, Act, assign, assign_at, receive, send, for_loop, while_loop, copy, Task}

-- each operator takes as many operands as it has
abbrev pub HaveOperands : Expr → Type 0
HaveOperands (number n) = Unit {0}
HaveOperands (variable v) = Unit {0}
HaveOperands (element v i) = HaveOperands i
HaveOperands (unary op e) = (is_unary op ≡ true) × HaveOperands e
HaveOperands (binary op a b) = (is_unary op ≡ false) × HaveOperands a × HaveOperands b

-- a variable that has a word
abbrev pub HasWord : List Var → ℕ → Type 0
HasWord vars v = place vars v < all_words vars

-- an expression over these variables
abbrev pub IsInScope : List Var → Expr → Type 0
IsInScope vars (number n) = Unit {0}
IsInScope vars (variable v) = HasWord vars v
IsInScope vars (element v i) = IsInScope vars i
IsInScope vars (unary op e) = IsInScope vars e
IsInScope vars (binary op a b) = IsInScope vars a × IsInScope vars b

-- an expression that the compiler may meet
pub record IsSound (vars : List Var) (e : Expr) : Type 0 where
  pub operands : HaveOperands e
  pub scope : IsInScope vars e

-- two arrays of one width, which is not 0
pub record AreAlike (vars : List Var) (a b : ℕ) : Type 0 where
  pub same : width vars a ≡ width vars b
  pub some : 0 < width vars a

-- turns that a counter can count
pub record AreTurns (n : ℕ) : Type 0 where
  pub some : 0 < n
  pub countable : n < 2 ^ 63

-- scalars are named where scalars stand, expressions are sound, loops have turns, and copies are between arrays of one width
abbrev mutual
  pub Fits : Block → List Var → Type 0
  Fits done vars = Unit {0}
  Fits (next s rest) vars = StmtFits s vars × Fits rest vars

  pub StmtFits : Stmt → List Var → Type 0
  StmtFits (item id act) vars = ActFits act vars
  StmtFits (choice id test held other) vars = IsSound vars test × Fits held vars × Fits other vars
  StmtFits (timed id window body) vars = Fits body vars

  pub ActFits : Act → List Var → Type 0
  ActFits (assign v e) vars = HasWord vars v × IsSound vars e
  ActFits (assign_at v i e) vars = IsSound vars i × IsSound vars e
  ActFits (receive v port) vars = HasWord vars v
  ActFits (send e port) vars = IsSound vars e
  ActFits (for_loop v n body) vars = HasWord vars v × AreTurns n × Fits body vars
  ActFits (while_loop test n body) vars = IsSound vars test × AreTurns n × Fits body vars
  ActFits (copy a b) vars = AreAlike vars a b

-- there is no `do` block
abbrev mutual
  pub IsUntimed : Block → Type 0
  IsUntimed done = Unit {0}
  IsUntimed (next s rest) = StmtIsUntimed s × IsUntimed rest

  pub StmtIsUntimed : Stmt → Type 0
  StmtIsUntimed (item id act) = ActIsUntimed act
  StmtIsUntimed (choice id test held other) = IsUntimed held × IsUntimed other
  StmtIsUntimed (timed id window body) = ⊥

  pub ActIsUntimed : Act → Type 0
  ActIsUntimed (for_loop v n body) = IsUntimed body
  ActIsUntimed (while_loop test n body) = IsUntimed body
  ActIsUntimed _ = Unit {0}

-- no loop holds a `do` block
abbrev mutual
  pub LoopsAreUntimed : Block → Type 0
  LoopsAreUntimed done = Unit {0}
  LoopsAreUntimed (next s rest) = StmtLoopsAreUntimed s × LoopsAreUntimed rest

  pub StmtLoopsAreUntimed : Stmt → Type 0
  StmtLoopsAreUntimed (item id act) = ActIsUntimed act
  StmtLoopsAreUntimed (choice id test held other) = LoopsAreUntimed held × LoopsAreUntimed other
  StmtLoopsAreUntimed (timed id window body) = LoopsAreUntimed body

-- a task of a checked program: it has a period, its body fits its variables, and no loop of it holds a `do` block
pub record TaskFits (task : Task) : Type 0 where
  pub period : 0 < task.period
  pub body : Fits task.body task.vars
  pub loops : LoopsAreUntimed task.body
