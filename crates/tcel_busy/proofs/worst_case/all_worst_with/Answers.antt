use Rattle.std.proofs.Common.{◌∙◌, arith}
use Rattle.std.proofs.lemmas.List.{length-set}
use Rattle.tcel_demand.specs.PlanViews.{point_of}
use Rattle.tcel_demand.proofs.PlainReads.{plain_read}
use Rattle.tcel_busy.proofs.AllWorst.{widening_more}
use Rattle.tcel_busy.proofs.worst_case.all_worst_with.Goals as goal

pub loop-place-preserved : goal.loop-place-preserved
loop-place-preserved c =
    let h = c.loop-place.invariant in
    let size = h.size in
    let places = c.requires.places in
    let e = plain_read c.args.points.now c.loop-place.place (point_of c.point.inside) c.index-points-place.result c.point.view_is c.index-points-place.is c.loop-place-test.true in
    record {
      size = length-set c.loop-place.worst c.loop-place.place c.worst_with.result ∙ size;
      widening = widening_more c.args.points.now c.args.stretch.now c.loop-place.place c.args.worst.now c.loop-place.worst (point_of c.point.inside) _ c.worst_with.result h.widening (omega arith) e c.worst_with.ensures;
    }
