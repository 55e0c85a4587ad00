use Rattle.std.proofs.Common.{refl, ◌∙◌, arith}
use Rattle.std.proofs.lemmas.List.{length-set}
use Rattle.tcel_demand.proofs.PlainReads.{plain_read}
use Rattle.tcel_demand.proofs.Soonest.{plans_more, plans_all}
use Rattle.tcel_demand.proofs.late.soonest_bounds.Goals as goal

pub loop-task-preserved : goal.loop-task-preserved
loop-task-preserved c =
    let h = c.loop-task.invariant in
    let size = h.size in
    let most = c.requires.most in
    let e = plain_read c.args.plans.now c.loop-task.task c.index-plans-task.result c.index-plans-task.result refl c.index-plans-task.is c.loop-task-test.true in
    record {
      size = length-set c.loop-task.soonest c.loop-task.task c.soonest_bound.result ∙ size;
      soonest = plans_more c.args.plans.now c.loop-task.task c.loop-task.soonest c.index-plans-task.result c.soonest_bound.result h.soonest (omega arith) e c.soonest_bound.ensures;
    }

pub returns : goal.returns
returns c = plans_all c.args.plans.now c.loop-task.task c.loop-task.soonest c.loop-task-test.false c.loop-task.invariant.soonest
