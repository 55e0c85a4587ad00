use Rattle.std.proofs.Common.{◌+◌, ◌∙◌, ap, length, refl}
use Rattle.std.specs.Prelude.{nat_le}
use Rattle.tcel_num.specs.Plan.{Plan}
use Rattle.tcel_tool.proofs.Reports.{adds_task, has_plan}
use Rattle.tcel_tool.proofs.report.put_task.Goals as goal

pub worst_responses-requires-clause-in_range : goal.worst_responses-requires-clause-in_range
worst_responses-requires-clause-in_range c =
    has_plan c.args.chosen.now c.args.number c.requires.best c.requires.within c.as_slice-plans.result.now c.as_slice-plans.ensures

pub bounds-plans-number : goal.bounds-plans-number
bounds-plans-number c = has_plan c.args.chosen.now c.args.number c.requires.best c.requires.within c.as_slice-plans.result.now c.as_slice-plans.ensures

pub returns : goal.returns
returns c =
    adds_task c.args.chosen.now c.args.number c.requires.best c.requires.within c.as_slice-plans.result.now c.as_slice-plans.ensures
    c.args.out.now.items c.put_line.new.out.items c.put_points.new.out.items
    c.as_slice-tasks.result.now c.index-tasks-number.result c.index-plans-number.result c.as_slice.result.now
    c.in_ok-worst.worst.items c.deref.result.now
    (nat_le (length c.as_slice-tasks.result.now) (c.args.number + c.args.chosen.now.choice.sliced)) c.as_slice-tasks.ensures c.index-tasks-number.is c.index-plans-number.is
    c.in_ok-worst.ensures.worst c.in_ok-worst.ensures.one_each
    refl c.in_ok-put_line.ensures (c.as_slice.ensures ∙ ap (λ (p : Plan). p.points) c.plan.view_is) c.deref.ensures.value c.in_ok-end.ensures
