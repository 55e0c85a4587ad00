-- What code costs.
use Rattle.std.specs.Prelude.{◌≡◌, ℕ, List, sum_by}
use Rattle.tcel_core.specs.declared.var.Var.{Var}
use Rattle.tcel_core.specs.Language.{Expr}
use Rattle.tcel_target.specs.declared.costs.Costs.{Costs}
use Rattle.tcel_image.specs.declared.image.Line.{Line}
use Rattle.tcel_image.specs.Instructions.{cycles}
use Rattle.tcel_cost.specs.Expressions.{expr_cycles}
use Rattle.tcel_code.specs.Code.{expr_code}

-- the cycles of code, one instruction after another
abbrev pub code_cycles : Costs → List Line → ℕ
code_cycles costs code = sum_by (λ (line : Line). cycles costs line.instr) code

-- the cycles of an expression are those of its code, at any depth of the stack
abbrev pub ExpressionsCostTheirCode : Type 0
ExpressionsCostTheirCode = (e : Expr) (vars : List Var) (depth : ℕ) (costs : Costs) → code_cycles costs (expr_code e vars depth) ≡ expr_cycles costs e
