use Rattle.std.proofs.Common.{sym, ap, ◌∙◌}
use Rattle.tcel_num.specs.Plan.{Plan}
use Rattle.tcel_demand.specs.PlanViews.{point_of}
use Rattle.tcel_busy.proofs.StretchTests.{none_late, first_is_late}
use Rattle.tcel_busy.proofs.lateness.late_in.Goals as goal

pub returns-in_err-place-clause-none : goal.returns-in_err-place-clause-none
returns-in_err-place-clause-none c =
    let points = c.as_slice-points.ensures ∙ ap (λ (p : Plan). p.points) c.plan.view_is in
    rw c.from_residual.ensures (none_late c.args.plan.now c.as_slice-points.result.now c.args.stretch.now points (sym c.in_err-place.ensures))

pub returns-clause-found : goal.returns-clause-found
returns-clause-found c =
    let points = c.as_slice-points.ensures ∙ ap (λ (p : Plan). p.points) c.plan.view_is in
    first_is_late c.args.plan.now c.args.task c.as_slice-points.result.now c.args.stretch.now c.in_ok-place.place (point_of c.point.inside) c.index-points-place.result points (sym c.in_ok-place.ensures)
    c.point.view_is c.index-points-place.is
