use Rattle.std.proofs.Common.{◌<◌, length, sym, ap, arith}
use Rattle.tcel_demand.specs.PlanViews.{plan_of}
use Rattle.tcel_demand.specs.Ticks.{Schedule}
use Rattle.tcel_demand.proofs.PlainReads.{plain_read}
use Rattle.tcel_demand.proofs.Standings.{served_in}
use Rattle.tcel_demand.proofs.TickLemmas.{served_most}
use Rattle.tcel_demand.proofs.demand.Demand.served.Goals as goal

pub overflow_mul-result : goal.overflow_mul-result
overflow_mul-result c =
    let within : c.args.task < length c.self.inside.plans.now = let same = ap (λ (s : Schedule). length s.plans) c.self.view_is in omega arith in
    let e = plain_read c.self.inside.plans.now c.args.task (plan_of c.plan.inside) c.index-plans-task.result c.plan.view_is c.index-plans-task.is within in
    let served = served_in c.self.inside c.self.invariant c.args.task (plan_of c.plan.inside) e in
    let most = served_most c.self.inside.plans.now c.self.inside.ticks c.args.task in
    let few = c.self.invariant.ticks in
    omega arith

pub overflow_add-result : goal.overflow_add-result
overflow_add-result c =
    let within : c.args.task < length c.self.inside.plans.now = let same = ap (λ (s : Schedule). length s.plans) c.self.view_is in omega arith in
    let e = plain_read c.self.inside.plans.now c.args.task (plan_of c.plan.inside) c.index-plans-task.result c.plan.view_is c.index-plans-task.is within in
    let served = served_in c.self.inside c.self.invariant c.args.task (plan_of c.plan.inside) e in
    let most = served_most c.self.inside.plans.now c.self.inside.ticks c.args.task in
    let few = c.self.invariant.ticks in
    omega arith

pub returns : goal.returns
returns c =
    let within : c.args.task < length c.self.inside.plans.now = let same = ap (λ (s : Schedule). length s.plans) c.self.view_is in omega arith in
    let e = plain_read c.self.inside.plans.now c.args.task (plan_of c.plan.inside) c.index-plans-task.result c.plan.view_is c.index-plans-task.is within in
    rw (← c.self.view_is) (sym (served_in c.self.inside c.self.invariant c.args.task (plan_of c.plan.inside) e))
