use Rattle.std.proofs.Common.{◌≡◌, ◌<◌, ◌^◌, sym, ap, ◌∙◌, arith}
use Rattle.tcel_demand.specs.PlanViews.{plan_of}
use Rattle.tcel_demand.specs.Ticks.{IsIdle, Schedule}
use Rattle.tcel_demand.proofs.PlainReads.{plain_read}
use Rattle.tcel_demand.proofs.Standings.{none_started, kept_idle, in_plans, cycle_fits, start_before, next_start_fits, next_frame_fits, step_made, stands_more, stands_end}
use Rattle.tcel_demand.proofs.demand.Demand.step.Goals as goal

idle : (c : goal.In_default) → IsIdle c.self.inside.plans.now c.self.inside.ticks
idle c =
    let h = c.self.invariant in
    none_started c.self.inside.plans.now c.self.inside.ticks c.self.inside.frames c.self.inside.cycles c.self.inside.starts h.sound h.starts h.each (sym c.first_started-found.ensures ∙ c.in_default.is)

pub invariant_of-self : goal.invariant_of-self
invariant_of-self c =
    let h = c.self.invariant in
    let ticks : c.self.inside.ticks ≡ c.args.self.now.ticks = ap (λ (s : Schedule). s.ticks) c.self.view_is in
    let few : c.self.inside.ticks < 10 ^ 12 = omega arith in
    record {
      sound = h.sound;
      ticks = omega arith;
      frames = h.frames;
      cycles = h.cycles;
      starts = h.starts;
      each = kept_idle c.self.inside.plans.now c.self.inside.ticks c.self.inside.frames c.self.inside.cycles c.self.inside.starts h.sound h.starts h.each (idle c);
    }

pub returns-in_default-clause-idle : goal.returns-in_default-clause-idle
returns-in_default-clause-idle c = rw (← c.self.view_is) (idle c)

pub overflow_add-step : goal.overflow_add-step
overflow_add-step c =
    record { fits = cycle_fits c.self.inside c.self.invariant c.in-Some.task (sym c.in-Some.ensures) }

pub overflow_sub-step : goal.overflow_sub-step
overflow_sub-step c =
    start_before c.self.inside c.self.invariant c.in-Some.task (sym c.in-Some.ensures)

pub overflow_add-self-then-step-plan : goal.overflow_add-self-then-step-plan
overflow_add-self-then-step-plan c =
    let e = plain_read c.self.inside.plans.now c.in-Some.task (plan_of c.plan.inside) c.index-self-task.result (c.plan.view_is ∙ sym c.index-self-task.is) c.index-self-task.is (in_plans c.self.inside c.self.invariant c.in-Some.task (sym c.in-Some.ensures)) in
    let ticks : c.self.inside.ticks ≡ c.args.self.now.ticks = ap (λ (s : Schedule). s.ticks) c.self.view_is in
    let few : c.self.inside.ticks < 10 ^ 12 = omega arith in
    record { fits = next_frame_fits c.self.inside c.self.invariant c.in-Some.task (sym c.in-Some.ensures) (plan_of c.plan.inside) e few }

pub overflow_add-self-then-step-plan-2 : goal.overflow_add-self-then-step-plan-2
overflow_add-self-then-step-plan-2 c =
    let e = plain_read c.self.inside.plans.now c.in-Some.task (plan_of c.plan.inside) c.index-self-task.result (c.plan.view_is ∙ sym c.index-self-task.is) c.index-self-task.is (in_plans c.self.inside c.self.invariant c.in-Some.task (sym c.in-Some.ensures)) in
    let ticks : c.self.inside.ticks ≡ c.args.self.now.ticks = ap (λ (s : Schedule). s.ticks) c.self.view_is in
    let few : c.self.inside.ticks < 10 ^ 12 = omega arith in
    record { fits = next_start_fits c.self.inside c.self.invariant c.in-Some.task (sym c.in-Some.ensures) (plan_of c.plan.inside) e few }

pub invariant_of-self-then-step-plan : goal.invariant_of-self-then-step-plan
invariant_of-self-then-step-plan c =
    let e = plain_read c.self.inside.plans.now c.in-Some.task (plan_of c.plan.inside) c.index-self-task.result (c.plan.view_is ∙ sym c.index-self-task.is) c.index-self-task.is (in_plans c.self.inside c.self.invariant c.in-Some.task (sym c.in-Some.ensures)) in
    let ticks : c.self.inside.ticks ≡ c.args.self.now.ticks = ap (λ (s : Schedule). s.ticks) c.self.view_is in
    let few : c.self.inside.ticks < 10 ^ 12 = omega arith in
    stands_end c.self.inside c.self.invariant c.in-Some.task (sym c.in-Some.ensures) (plan_of c.plan.inside) e few c.if-step-plan.true

pub invariant_of-self-else-step-plan : goal.invariant_of-self-else-step-plan
invariant_of-self-else-step-plan c =
    let e = plain_read c.self.inside.plans.now c.in-Some.task (plan_of c.plan.inside) c.index-self-task.result (c.plan.view_is ∙ sym c.index-self-task.is) c.index-self-task.is (in_plans c.self.inside c.self.invariant c.in-Some.task (sym c.in-Some.ensures)) in
    let ticks : c.self.inside.ticks ≡ c.args.self.now.ticks = ap (λ (s : Schedule). s.ticks) c.self.view_is in
    let few : c.self.inside.ticks < 10 ^ 12 = omega arith in
    stands_more c.self.inside c.self.invariant c.in-Some.task (sym c.in-Some.ensures) (plan_of c.plan.inside) e few c.if-step-plan.false

pub returns-then-step-plan-clause-served : goal.returns-then-step-plan-clause-served
returns-then-step-plan-clause-served c =
    let e = plain_read c.self.inside.plans.now c.in-Some.task (plan_of c.plan.inside) c.index-self-task.result (c.plan.view_is ∙ sym c.index-self-task.is) c.index-self-task.is (in_plans c.self.inside c.self.invariant c.in-Some.task (sym c.in-Some.ensures)) in
    rw (← c.self.view_is) (step_made c.self.inside c.self.invariant c.in-Some.task (sym c.in-Some.ensures) (plan_of c.plan.inside) e)

pub returns-else-step-plan-clause-served : goal.returns-else-step-plan-clause-served
returns-else-step-plan-clause-served c =
    let e = plain_read c.self.inside.plans.now c.in-Some.task (plan_of c.plan.inside) c.index-self-task.result (c.plan.view_is ∙ sym c.index-self-task.is) c.index-self-task.is (in_plans c.self.inside c.self.invariant c.in-Some.task (sym c.in-Some.ensures)) in
    rw (← c.self.view_is) (step_made c.self.inside c.self.invariant c.in-Some.task (sym c.in-Some.ensures) (plan_of c.plan.inside) e)
