use Rattle.std.proofs.Common.{◌≡◌, ◌∙◌, ap, arith, subst}
use Rattle.tcel_demand.specs.Standing.{IsStep}
use Rattle.tcel_demand.specs.Ticks.{Schedule, IsIdle, after}
use Rattle.tcel_demand.proofs.FirstLates.{IsFirstOf}
use Rattle.tcel_demand.proofs.PassedPlaces.{IsPassed, search_idle, search_none, search_late, search_over}
use Rattle.tcel_demand.proofs.late.late_plain.Goals as goal
use Rattle.tcel_demand.proofs.late.late_plain.Goals.{in-Some+in-Some-late_in, in-Some+in_default-late_in, in_default}

pub loop-preserved : goal.loop-preserved
loop-preserved c =
    let e = c.loop.invariant.schedule in
    let first = c.loop.invariant.first in
    let sound = c.requires.within.sound in
    record {
      schedule = c.step.ensures.after ∙ ap after e;
      first = elim c.match-step.branch [
        | in-Some+in-Some-late_in w ↦
            let is = subst (λ (s : Schedule). IsStep s.plans s.ticks w.in-Some.step) e w.in-Some.ensures.served in
            rw w.first-is
            (search_late c.args.plans.now c.loop.counter c.loop.first first sound w.in-Some.step is w.index-plans-step.result w.index-plans-step.is w.in-Some-late_in.late w.or_earlier.result
            w.in-Some-late_in.ensures.found w.or_earlier.ensures)
        | in-Some+in_default-late_in w ↦
            let is = subst (λ (s : Schedule). IsStep s.plans s.ticks w.in-Some.step) e w.in-Some.ensures.served in
            rw w.first-is
            (search_none c.args.plans.now c.loop.counter c.loop.first first sound w.in-Some.step is w.index-plans-step.result w.index-plans-step.is w.in_default-late_in.ensures.none)
        | in_default w ↦
            let idle = subst (λ (s : Schedule). IsIdle s.plans s.ticks) e w.in_default.ensures.idle in
            rw w.first-is (search_idle c.args.plans.now c.loop.counter c.loop.first first idle)
      ];
    }

pub returns : goal.returns
returns c =
    let same : c.loop.counter ≡ c.args.hyper = omega arith in
    search_over c.args.plans.now c.args.hyper c.loop.first c.requires (subst (λ t. IsFirstOf c.args.plans.now (IsPassed c.args.plans.now t) c.loop.first) same c.loop.invariant.first)
