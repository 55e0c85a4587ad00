use Rattle.std.proofs.Common.{ap, ◌∙◌}
use Rattle.tcel_num.specs.Plan.{Plan}
use Rattle.tcel_demand.specs.PlanViews.{point_of}
use Rattle.tcel_demand.proofs.PlainReads.{plain_read}
use Rattle.tcel_demand.proofs.Soonest.{soonest_more, soonest_all}
use Rattle.tcel_demand.proofs.late.soonest_bound.Goals as goal

pub loop-point-preserved : goal.loop-point-preserved
loop-point-preserved c =
    let e = plain_read c.as_slice-points.result.now c.loop-point.point-index (point_of c.point.inside) c.point-item.result c.point.view_is c.point-item.is c.loop-point-test.true in
    rw c.min-soonest.ensures (soonest_more c.as_slice-points.result.now c.loop-point.point-index c.loop-point.soonest (point_of c.point.inside) c.loop-point.invariant e)

pub returns : goal.returns
returns c =
    soonest_all c.args.plan.now c.as_slice-points.result.now c.loop-point.point-index c.loop-point.soonest (c.as_slice-points.ensures ∙ ap (λ (p : Plan). p.points) c.plan.view_is) c.loop-point-test.false c.loop-point.invariant
