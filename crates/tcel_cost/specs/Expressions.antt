-- What expressions cost: each part has the cost of one key of the table.
use Rattle.std.specs.Prelude.{ℕ, ◌+◌}
use Rattle.tcel_num.specs.declared.op.Op.{Op}
use Rattle.tcel_num.specs.declared.op.Op.TheVariants.{Mul, Div, Rem}
use Rattle.tcel_core.specs.Language.{Expr, number, variable, element, unary, binary}
use Rattle.tcel_target.specs.declared.costs.Costs.{Costs}
use Rattle.tcel_target.specs.declared.costs.CostKey.{CostKey}
use Rattle.tcel_target.specs.declared.costs.CostKey.TheVariants as keys
use Rattle.tcel_target.specs.Costs.{cost_of}

-- the key of an operator
abbrev pub operator_key : Op → CostKey
operator_key Mul = keys.Multiply
operator_key Div = keys.Divide
operator_key Rem = keys.Divide
operator_key _ = keys.Arith

-- the cycles of an expression
abbrev pub expr_cycles : Costs → Expr → ℕ
expr_cycles costs (number n) = cost_of costs keys.Const
expr_cycles costs (variable v) = cost_of costs keys.Load
expr_cycles costs (element v i) = expr_cycles costs i + cost_of costs keys.LoadAt
expr_cycles costs (unary op e) = expr_cycles costs e + cost_of costs (operator_key op)
expr_cycles costs (binary op a b) = expr_cycles costs a + (expr_cycles costs b + cost_of costs (operator_key op))
