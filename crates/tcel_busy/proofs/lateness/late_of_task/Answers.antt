use Rattle.std.proofs.Common.{◌∙◌}
use Rattle.tcel_demand.proofs.Standings.{plan_at}
use Rattle.tcel_busy.proofs.StretchFacts.{walk_over, after_none, after_late, of_earlier}
use Rattle.tcel_busy.proofs.lateness.late_of_task.Goals as goal

pub loop-stretch-preserved-in-Some-late_in : goal.loop-stretch-preserved-in-Some-late_in
loop-stretch-preserved-in-Some-late_in c =
    let h = c.loop-stretch.invariant in
    let next = c.in-Some.ensures.some in
    record {
      plans = next.on.plans ∙ h.plans;
      task = next.on.task ∙ h.task;
      of_it = of_earlier c.args.task c.loop-stretch.first c.in-Some-late_in.late c.or_earlier.result h.of_it c.in-Some-late_in.ensures.found.of_task c.or_earlier.ensures;
      first = λ plan e.
          after_late c.args.plans.now c.args.task plan c.requires.fit.1.within.sound e c.loop-stretch.walk c.next.new.self c.in-Some.stretch h.plans h.task next c.index-plans-task.result c.index-plans-task.is
          c.loop-stretch.first (h.first plan e) c.in-Some-late_in.late c.or_earlier.result c.in-Some-late_in.ensures.found c.or_earlier.ensures;
    }

pub loop-stretch-preserved : goal.loop-stretch-preserved
loop-stretch-preserved c =
    let h = c.loop-stretch.invariant in
    let next = c.in-Some.ensures.some in
    record {
      plans = next.on.plans ∙ h.plans;
      task = next.on.task ∙ h.task;
      of_it = h.of_it;
      first = λ plan e.
          after_none c.args.plans.now c.args.task plan c.requires.fit.1.within.sound e c.loop-stretch.walk c.next.new.self c.in-Some.stretch h.plans h.task next c.index-plans-task.result c.index-plans-task.is
          c.loop-stretch.first (h.first plan e) c.in_default-late_in.ensures.none;
    }

pub returns : goal.returns
returns c =
    let h = c.loop-stretch.invariant in
    let plan = plan_at c.args.plans.now c.args.task c.requires.in_range in
    walk_over c.args.plans.now c.args.task plan.0 c.requires.fit.1.within.sound plan.1 c.loop-stretch.walk h.plans h.task c.in_default.ensures.none c.loop-stretch.first h.of_it (h.first plan.0 plan.1)
