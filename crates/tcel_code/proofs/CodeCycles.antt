-- The cycles of an expression are those of its code.
use Rattle.std.proofs.Common.{◌≡◌, ℕ, ◌+◌, List, ◌++◌, refl, arith}
use Rattle.std.proofs.lemmas.List.Sums.{sum_by-append}
use Rattle.tcel_num.specs.declared.op.Op.{Op}
use Rattle.tcel_num.specs.declared.op.Op.TheVariants.{Mul, Div, Rem}
use Rattle.tcel_core.specs.Cells.{place, width}
use Rattle.tcel_core.specs.Language.{number, variable, element, unary, binary}
use Rattle.tcel_target.specs.declared.costs.Costs.{Costs}
use Rattle.tcel_target.specs.Costs.{cost_of}
use Rattle.tcel_image.specs.declared.image.Instr.{Instr}
use Rattle.tcel_image.specs.declared.image.Instr.TheVariants.{GetAt, Arith}
use Rattle.tcel_image.specs.declared.image.Line.{Line}
use Rattle.tcel_image.specs.Instructions.{cycles, operator_cycles}
use Rattle.tcel_cost.specs.Expressions.{operator_key}
use Rattle.tcel_code.specs.Code.{at, expr_code}
use Rattle.tcel_code.specs.CodeCycles.{code_cycles, ExpressionsCostTheirCode}

pub cycles-append : (costs : Costs) (a b : List Line) → code_cycles costs (a ++ b) ≡ code_cycles costs a + code_cycles costs b
cycles-append costs a b = sum_by-append (λ (line : Line). cycles costs line.instr) a b

cycles-at : (costs : Costs) (depth : ℕ) (instr : Instr) → code_cycles costs (at depth instr) ≡ cycles costs instr
cycles-at costs depth instr = omega arith

operator_takes_its_key : (costs : Costs) (op : Op) → operator_cycles costs op ≡ cost_of costs (operator_key op)
operator_takes_its_key costs Mul = refl
operator_takes_its_key costs Div = refl
operator_takes_its_key costs Rem = refl
operator_takes_its_key costs _ = refl

pub code_takes : ExpressionsCostTheirCode
code_takes (number n) vars depth costs = omega arith
code_takes (variable v) vars depth costs = omega arith
code_takes (element v i) vars depth costs =
    let get = GetAt (place vars v) (width vars v) in
    omega (arith, code_takes i vars depth costs, cycles-append costs (expr_code i vars depth) (at (depth + 1) get), cycles-at costs (depth + 1) get)
code_takes (unary op e) vars depth costs =
    omega (
      arith,
      code_takes e vars depth costs,
      operator_takes_its_key costs op,
      cycles-append costs (expr_code e vars depth) (at (depth + 1) (Arith op)),
      cycles-at costs (depth + 1) (Arith op),
    )
code_takes (binary op a b) vars depth costs =
    let second = expr_code b vars (depth + 1) ++ at (depth + 2) (Arith op) in
    omega (
      arith,
      code_takes a vars depth costs,
      code_takes b vars (depth + 1) costs,
      operator_takes_its_key costs op,
      cycles-append costs (expr_code a vars depth) second,
      cycles-append costs (expr_code b vars (depth + 1)) (at (depth + 2) (Arith op)),
      cycles-at costs (depth + 2) (Arith op),
    )
