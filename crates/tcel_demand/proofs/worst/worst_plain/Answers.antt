use Rattle.std.proofs.Common.{◌≡◌, ◌∙◌, ap, arith, subst}
use Rattle.tcel_num.specs.Schedule.{served}
use Rattle.tcel_demand.specs.Sound.{HasPoint}
use Rattle.tcel_demand.specs.Standing.{IsStep}
use Rattle.tcel_demand.specs.Ticks.{Schedule, IsIdle, after}
use Rattle.tcel_demand.proofs.WorstSoFar.{IsWorstOf, tick_with, tick_without, worst_over}
use Rattle.tcel_demand.proofs.worst.worst_plain.Goals as goal
use Rattle.tcel_demand.proofs.worst.worst_plain.Goals.{in-Some, in_default}

pub loop-preserved : goal.loop-preserved
loop-preserved c =
    let e = c.loop.invariant.schedule in
    let plans = c.args.plans.now in
    let sound = c.requires.fit.within.sound in
    record {
      schedule = c.step.ensures.after ∙ ap after e;
      worst = λ plan what of_task of_plan.
          let has : HasPoint plans c.args.task c.args.point = record { plan = plan; of_task = of_task; what = what; of_plan = of_plan } in
          let before = c.loop.invariant.worst plan what of_task of_plan in
          elim c.match-step.branch [
            | in-Some w ↦
                let is = subst (λ (s : Schedule). IsStep s.plans s.ticks w.in-Some.step) e w.in-Some.ensures.served in
                let prefix = c.prefix_of-prefix.ensures plan what of_task of_plan in
                rw w.worst-is
                (tick_with plans c.args.task c.args.point sound has c.loop.counter c.loop.worst before w.in-Some.step is c.prefix_of-prefix.result prefix w.worst_with-worst.result w.worst_with-worst.ensures)
            | in_default w ↦
                let idle = subst (λ (s : Schedule). IsIdle s.plans s.ticks) e w.in_default.ensures.idle in
                rw w.worst-is (tick_without plans c.args.task c.args.point sound has c.loop.counter c.loop.worst before idle)
          ];
    }

pub returns : goal.returns
returns c =
    let has = c.requires.in_range in
    let plans = c.args.plans.now in
    let same : c.loop.counter ≡ c.args.hyper = omega arith in
    let here = c.loop.invariant.worst has.plan has.what has.of_task has.of_plan in
    worst_over plans c.args.task c.args.point c.requires.fit.within.sound has c.args.hyper c.loop.worst c.requires.fit
    (subst (λ t. IsWorstOf plans c.args.task c.args.point has.plan has.what (served plans t c.args.task) c.loop.worst) same here)
