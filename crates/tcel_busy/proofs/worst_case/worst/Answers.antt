use Rattle.std.proofs.Common.{◌∙◌}
use Rattle.tcel_demand.specs.Sound.{HasPoint}
use Rattle.tcel_busy.proofs.StretchFacts.{worst_begun, worst_step, worst_walked}
use Rattle.tcel_busy.proofs.worst_case.worst.Goals as goal

pub loop-stretch-init : goal.loop-stretch-init
loop-stretch-init c = record {
  plans = c.new-walk.ensures.plans;
  task = c.new-walk.ensures.task;
  worst = λ plan what e f.
      let has : HasPoint c.args.plans.now c.args.task c.args.point = record { plan = plan; of_task = e; what = what; of_plan = f } in
      worst_begun c.args.plans.now c.args.task c.args.point c.requires.fit.1.within.sound has c.new-walk.result c.new-walk.ensures.frame c.new-walk.ensures.from;
}

pub loop-stretch-preserved : goal.loop-stretch-preserved
loop-stretch-preserved c =
    let h = c.loop-stretch.invariant in
    let next = c.in-Some.ensures.some in
    record {
      plans = next.on.plans ∙ h.plans;
      task = next.on.task ∙ h.task;
      worst = λ plan what e f.
          let has : HasPoint c.args.plans.now c.args.task c.args.point = record { plan = plan; of_task = e; what = what; of_plan = f } in
          worst_step c.args.plans.now c.args.task c.args.point c.requires.fit.1.within.sound has c.loop-stretch.walk c.next.new.self c.in-Some.stretch h.plans h.task next c.loop-stretch.worst c.worst_with-worst.result
          (h.worst plan what e f) c.prefix_of-prefix.result (c.prefix_of-prefix.ensures plan what e f) c.worst_with-worst.ensures;
    }

pub returns : goal.returns
returns c =
    let h = c.loop-stretch.invariant in
    let has = c.requires.in_range in
    worst_walked c.args.plans.now c.args.task c.args.point c.requires.fit.1.within.sound has c.loop-stretch.walk h.plans h.task c.in_default.ensures.none c.loop-stretch.worst (h.worst has.plan has.what has.of_task has.of_plan)
