use Rattle.std.proofs.Common.{ap, ◌∙◌}
use Rattle.tcel_num.specs.Plan.{Plan}
use Rattle.tcel_demand.specs.PlanViews.{point_of}
use Rattle.tcel_demand.proofs.PlainReads.{plain_read}
use Rattle.tcel_busy.proofs.Rooms.{room_more, room_all, sound_in}
use Rattle.tcel_busy.proofs.lateness.room_of.Goals as goal

pub loop-point-preserved : goal.loop-point-preserved
loop-point-preserved c =
    let points = c.as_slice-points.result.now in
    let same = c.as_slice-points.ensures ∙ ap (λ (p : Plan). p.points) c.plan.view_is in
    let total = ap (λ (p : Plan). p.total) c.plan.view_is in
    let e = plain_read points c.loop-point.point-index (point_of c.point.inside) c.point-item.result c.point.view_is c.point-item.is c.loop-point-test.true in
    rw c.min-room.ensures
    (room_more points c.plan.inside.total c.loop-point.point-index c.loop-point.room (point_of c.point.inside) c.loop-point.invariant e
    (sound_in c.args.plan.now points c.plan.inside.total c.loop-point.point-index (point_of c.point.inside) c.requires same total e))

pub returns : goal.returns
returns c =
    room_all c.args.plan.now c.as_slice-points.result.now c.plan.inside.total c.loop-point.point-index c.loop-point.room (c.as_slice-points.ensures ∙ ap (λ (p : Plan). p.points) c.plan.view_is)
    (ap (λ (p : Plan). p.total) c.plan.view_is) c.loop-point-test.false c.loop-point.invariant
