-- Which sets have an image that can be written: its names are names, and its numbers are in the ranges of their fields.
use Rattle.std.specs.Prelude.{◌≡◌, ◌+◌, ◌≤◌, List, length, IfSome, FitsSigned}
use Rattle.std.specs.Int.{w64, IsInRange}
use Rattle.std.specs.List.{AllByRecursion}
use Rattle.tcel_num.specs.Name.{IsName}
use Rattle.tcel_core.specs.declared.var.Var.{Var}
use Rattle.tcel_core.specs.Cells.{all_words, width}
use Rattle.tcel_core.specs.Contents.{loops}
use Rattle.tcel_core.specs.Frames.{state_words}
use Rattle.tcel_core.specs.Language.{Expr, number, variable, element, unary, binary, Block, done, next, Stmt, item, choice, timed, Act, assign, assign_at, receive, send, for_loop, while_loop, copy}
use Rattle.tcel_target.specs.declared.costs.Costs.{Costs}
use Rattle.tcel_target.specs.Costs.{CostsInRange}
use Rattle.tcel_image.specs.Spelling.{IsLength, InRange, NamesInRange, StatesInRange}
use Rattle.tcel_cost.specs.Forms.{Form}
use Rattle.tcel_code.specs.Compilable.{IsCompilable}
use Rattle.tcel_code.specs.Layout.{form_task, layout, states_of}

-- numbers fit 64 bits, and arrays have 1 to 4,096 words
abbrev pub ExprFits : Expr → List Var → Type 0
ExprFits (number n) vars = FitsSigned w64 n
ExprFits (variable v) vars = Unit {0}
ExprFits (element v i) vars = IsLength (width vars v) × ExprFits i vars
ExprFits (unary op e) vars = ExprFits e vars
ExprFits (binary op a b) vars = ExprFits a vars × ExprFits b vars

-- so it is in statements, where loops have 1 to 4,096 turns, and `start after` is a time of at most 10^9
abbrev mutual
  pub NumbersFit : Block → List Var → Type 0
  NumbersFit done vars = Unit {0}
  NumbersFit (next s rest) vars = StmtNumbersFit s vars × NumbersFit rest vars

  pub StmtNumbersFit : Stmt → List Var → Type 0
  StmtNumbersFit (item id act) vars = ActNumbersFit act vars
  StmtNumbersFit (choice id test held other) vars = ExprFits test vars × NumbersFit held vars × NumbersFit other vars
  StmtNumbersFit (timed id window body) vars = IfSome window.after (IsInRange 1 1000000000) × NumbersFit body vars

  pub ActNumbersFit : Act → List Var → Type 0
  ActNumbersFit (assign v e) vars = ExprFits e vars
  ActNumbersFit (assign_at v i e) vars = IsLength (width vars v) × ExprFits i vars × ExprFits e vars
  ActNumbersFit (receive v port) vars = Unit {0}
  ActNumbersFit (send e port) vars = ExprFits e vars
  ActNumbersFit (for_loop v turns body) vars = IsLength turns × NumbersFit body vars
  ActNumbersFit (while_loop test turns body) vars = ExprFits test vars × IsLength turns × NumbersFit body vars
  ActNumbersFit (copy a b) vars = IsLength (width vars a)

-- what a form of a checked task has, so that its image can be written
pub record IsSpellable (form : Form) : Type 0 where
  pub name : IsName form.task.name
  pub inputs : NamesInRange form.task.inputs
  pub outputs : NamesInRange form.task.outputs
  pub states : StatesInRange (states_of form.task.vars)
  -- the states have their words among those of the parts' variables
  pub words : state_words form.parts.vars ≡ state_words form.task.vars
  pub cells : all_words form.parts.vars + loops form.task.body ≤ 65536
  pub lines : length (form_task form).code ≤ 65536
  pub first : NumbersFit form.parts.first form.parts.vars
  pub rest : NumbersFit form.parts.rest form.parts.vars

-- the image of such forms, which is valid, is in range
abbrev pub ImagesAreInRange : Type 0
ImagesAreInRange =
    (forms : List Form) (costs : Costs) → CostsInRange costs → IsInRange 1 16 (length forms) → AllByRecursion IsCompilable forms → AllByRecursion IsSpellable forms →
    InRange (layout forms costs)
