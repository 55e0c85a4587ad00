use Rattle.std.proofs.Common.{◌≡◌, ◌+◌, ◌*◌, Some, sym, ap, ◌∙◌, subst, refl}
use Rattle.std.specs.Prelude.{slice_get}
use Rattle.tcel_demand.specs.Sound.{HasPoint}
use Rattle.tcel_demand.specs.PlanViews.{plan_of}
use Rattle.tcel_demand.proofs.WorstSoFar.{IsWorstOf}
use Rattle.tcel_num.specs.Plan.{Plan}
use Rattle.std.proofs.lemmas.Option.{get_or_from_slice_get}
use Rattle.tcel_demand.proofs.PlainReads.{plain_read}
use Rattle.tcel_busy.proofs.StretchFacts.{worst_step, worst_walked}
use Rattle.tcel_busy.proofs.worst_case.worst_of_task.Goals as goal

pub loop-stretch-preserved : goal.loop-stretch-preserved
loop-stretch-preserved c =
    let h = c.loop-stretch.invariant in
    let next = c.in-Some.ensures.some in
    record {
      size = c.all_worst_with.auto.worst ∙ h.size;
      plans = next.on.plans ∙ h.plans;
      task = next.on.task ∙ h.task;
      worst = λ plan what k d e f.
          let has : HasPoint c.args.plans.now c.args.task k = record { plan = plan; of_task = e; what = what; of_plan = f } in
          let mine = plain_read c.args.plans.now c.args.task (plan_of c.plan.inside) c.index-plans-task.result c.plan.view_is c.index-plans-task.is c.requires.in_range in
          let same : plan_of c.plan.inside ≡ plan = cc in
          let points : c.as_slice-points.result.now ≡ plan.points = c.as_slice-points.ensures ∙ ap (λ (p : Plan). p.points) same in
          let there : slice_get c.as_slice-points.result.now k ≡ Some what = subst (λ xs. slice_get xs k ≡ Some what) (sym points) f in
          worst_step c.args.plans.now c.args.task k c.requires.fit.1.within.sound has c.loop-stretch.walk c.next.new.self c.in-Some.stretch h.plans h.task next _ _
          (h.worst plan what k d e f) what.prefix refl (c.all_worst_with.ensures k what d there);
    }

pub returns : goal.returns
returns c = λ point one has e.
    let h = c.loop-stretch.invariant in
    let at = h.worst has.plan has.what point one has.of_task has.of_plan in
    let read = get_or_from_slice_get c.loop-stretch.worst point one one e in
    worst_walked c.args.plans.now c.args.task point c.requires.fit.1.within.sound has c.loop-stretch.walk h.plans h.task c.in_default.ensures.none one
    (subst (λ w. IsWorstOf c.args.plans.now c.args.task point has.plan has.what (c.loop-stretch.walk.frame * has.plan.total + c.loop-stretch.walk.from) w) read at)
