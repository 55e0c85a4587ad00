use Rattle.std.proofs.Common.{◌+◌, ap, arith}
use Rattle.tcel_core.specs.Cells.{width}
use Rattle.tcel_core.proofs.Places.{place_end}
use Rattle.tcel_core.proofs.layout.Layout.width.Goals as goal

pub overflow_sub-result : goal.overflow_sub-result
overflow_sub-result c =
    let each = c.self.invariant.each in
    omega (arith, each c.args.var (omega arith), each (c.args.var + 1) (omega arith), place_end c.self.inside.vars.now c.args.var)

pub returns-then-var-lt256 : goal.returns-then-var-lt256
returns-then-var-lt256 c =
    let each = c.self.invariant.each in
    let vars = ap (λ vars. width vars c.args.var) c.self.view_is in
    omega (arith, each c.args.var (omega arith), each (c.args.var + 1) (omega arith), place_end c.self.inside.vars.now c.args.var, vars)
