use Rattle.std.proofs.Common.{arith}
use Rattle.tcel_demand.specs.PlanViews.{plan_of}
use Rattle.tcel_demand.proofs.Demands.{next_fits}
use Rattle.tcel_demand.proofs.PlainReads.{plain_read}
use Rattle.tcel_demand.proofs.total.demand_over.Goals as goal

pub overflow_add-cycles : goal.overflow_add-cycles
overflow_add-cycles c =
    let e = plain_read c.args.plans.now c.loop-plan.plan-index (plan_of c.plan.inside) c.plan-item.result c.plan.view_is c.plan-item.is (omega arith) in
    let fits = next_fits c.args.plans.now c.args.hyper c.loop-plan.plan-index (plan_of c.plan.inside) c.requires e in
    omega arith
