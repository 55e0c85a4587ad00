use Rattle.std.proofs.Common.{arith}
use Rattle.tcel_core.specs.Plain.{plain_body}
use Rattle.tcel_cost.proofs.PlanCosts.{total_fits}
use Rattle.tcel_cost.proofs.plans.plan_of.Goals as goal

pub overflow_add-marked : goal.overflow_add-marked
overflow_add-marked c =
    let fits = total_fits (plain_body c.args.first.now) c.args.vars.now c.args.costs.now c.entered-start.result c.in-Ok.cost c.args.costs.now.dispatch c.requires.room c.entered-start.ensures c.in-Ok.ensures.cost in
    omega (arith, fits)

pub overflow_add-total : goal.overflow_add-total
overflow_add-total c =
    let fits = total_fits (plain_body c.args.first.now) c.args.vars.now c.args.costs.now c.entered-start.result c.in-Ok.cost c.args.costs.now.dispatch c.requires.room c.entered-start.ensures c.in-Ok.ensures.cost in
    let rest = c.requires.rest in
    omega (arith, fits, rest)

pub overflow_add-total-2 : goal.overflow_add-total-2
overflow_add-total-2 c =
    let fits = total_fits (plain_body c.args.first.now) c.args.vars.now c.args.costs.now c.entered-start.result c.in-Ok.cost c.args.costs.now.dispatch c.requires.room c.entered-start.ensures c.in-Ok.ensures.cost in
    let rest = c.requires.rest in
    omega (arith, fits, rest)
