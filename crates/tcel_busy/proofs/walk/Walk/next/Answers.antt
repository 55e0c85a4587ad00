use Rattle.std.proofs.Common.{◌≡◌, min, max, ap, sym, refl, ◌∙◌, arith, length}
use Rattle.std.proofs.lemmas.List.{length-take-le}
use Rattle.tcel_demand.specs.PlanViews.{plan_of}
use Rattle.tcel_demand.proofs.PlainReads.{plain_read}
use Rattle.tcel_demand.proofs.Standings.{sound_at}
use Rattle.tcel_busy.proofs.Walks.{frame_fits, task_within, is_over, start_fits, release_fits, stretch_is, stands_next, next_left, until_fits, asked_fits, next_at, delay_fits, stands_on, on_left}
use Rattle.tcel_busy.proofs.walk.Walk.next.Goals as goal

pub returns-then-self-clause-none : goal.returns-then-self-clause-none
returns-then-self-clause-none c =
    rw (← c.self.view_is) (is_over c.self.inside c.self.invariant c.if-self.true)

pub offset_bounds-plans-self-inside : goal.offset_bounds-plans-self-inside
offset_bounds-plans-self-inside c =
    let within = task_within c.self.inside c.self.invariant in
    let most = c.self.invariant.sound.most in
    record { fits = omega arith }

pub bounds-plans-self-inside : goal.bounds-plans-self-inside
bounds-plans-self-inside c =
    task_within c.self.inside c.self.invariant

pub overflow_add-self-inside : goal.overflow_add-self-inside
overflow_add-self-inside c =
    let fits = start_fits c.self.inside c.self.invariant c.if-self.false c.self.invariant.plan c.self.invariant.of_task in
    record { fits = omega arith }

pub overflow_add-done : goal.overflow_add-done
overflow_add-done c =
    let e = plain_read c.self.inside.plans.now c.self.inside.task (plan_of c.plan.inside) c.index-plans-self.result c.plan.view_is c.index-plans-self.is (task_within c.self.inside c.self.invariant) in
    let fits = start_fits c.self.inside c.self.invariant c.if-self.false (plan_of c.plan.inside) e in
    record { fits = omega arith }

pub overflow_add-self : goal.overflow_add-self
overflow_add-self c =
    let fits = release_fits c.self.inside c.self.invariant c.if-self.false c.self.invariant.plan c.self.invariant.of_task in
    let few = frame_fits c.self.inside c.self.invariant in
    record { fits = omega arith }

pub overflow_add-self-then-stretch-plan : goal.overflow_add-self-then-stretch-plan
overflow_add-self-then-stretch-plan c =
    let e = plain_read c.self.inside.plans.now c.self.inside.task (plan_of c.plan.inside) c.index-plans-self.result c.plan.view_is c.index-plans-self.is (task_within c.self.inside c.self.invariant) in
    let fits = release_fits c.self.inside c.self.invariant c.if-self.false c.self.invariant.plan c.self.invariant.of_task in
    let most = (sound_at c.self.inside.plans.now c.self.inside.task (plan_of c.plan.inside) c.self.invariant.sound e).period_most in
    record { fits = omega arith }

pub invariant_of-self : goal.invariant_of-self
invariant_of-self c =
    let e = plain_read c.self.inside.plans.now c.self.inside.task (plan_of c.plan.inside) c.index-plans-self.result c.plan.view_is c.index-plans-self.is (task_within c.self.inside c.self.invariant) in
    let to = c.max.ensures ∙ ap (λ n. max n c.self.inside.from) (c.min.ensures ∙ ap (λ n. min n c.plan.inside.total) c.saturating_sub-reach.ensures) in
    rw c.saturating_sub-self-inside.ensures (stands_next c.self.inside c.self.invariant c.if-self.false (plan_of c.plan.inside) e c.max.result to c.if-stretch-plan.true)

pub slice_bounds-pass_releases-end : goal.slice_bounds-pass_releases-end
slice_bounds-pass_releases-end c =
    let within = task_within c.self.inside c.self.invariant in
    sym (length-take-le c.self.inside.task c.self.inside.plans.now (omega arith))

pub pass_releases-gap-requires-clause-time : goal.pass_releases-gap-requires-clause-time
pass_releases-gap-requires-clause-time c =
    let e = plain_read c.self.inside.plans.now c.self.inside.task (plan_of c.plan.inside) c.index-plans-self.result c.plan.view_is c.index-plans-self.is (task_within c.self.inside c.self.invariant) in
    let to = c.max.ensures ∙ ap (λ n. max n c.self.inside.from) (c.min.ensures ∙ ap (λ n. min n c.plan.inside.total) c.saturating_sub-reach.ensures) in
    until_fits c.self.inside c.self.invariant c.if-self.false (plan_of c.plan.inside) e c.max.result to c.if-stretch-plan.false

pub pass_releases-gap-requires-clause-cycles : goal.pass_releases-gap-requires-clause-cycles
pass_releases-gap-requires-clause-cycles c =
    let e = plain_read c.self.inside.plans.now c.self.inside.task (plan_of c.plan.inside) c.index-plans-self.result c.plan.view_is c.index-plans-self.is (task_within c.self.inside c.self.invariant) in
    let to = c.max.ensures ∙ ap (λ n. max n c.self.inside.from) (c.min.ensures ∙ ap (λ n. min n c.plan.inside.total) c.saturating_sub-reach.ensures) in
    asked_fits c.self.inside c.self.invariant c.if-self.false (plan_of c.plan.inside) e c.max.result to c.if-stretch-plan.false

pub pass_releases-gap-requires-clause-next : goal.pass_releases-gap-requires-clause-next
pass_releases-gap-requires-clause-next c =
    let e = plain_read c.self.inside.plans.now c.self.inside.task (plan_of c.plan.inside) c.index-plans-self.result c.plan.view_is c.index-plans-self.is (task_within c.self.inside c.self.invariant) in
    let to = c.max.ensures ∙ ap (λ n. max n c.self.inside.from) (c.min.ensures ∙ ap (λ n. min n c.plan.inside.total) c.saturating_sub-reach.ensures) in
    next_at c.self.inside c.self.invariant c.if-self.false (plan_of c.plan.inside) e c.max.result to c.if-stretch-plan.false

pub overflow_add-self-else-stretch-plan : goal.overflow_add-self-else-stretch-plan
overflow_add-self-else-stretch-plan c =
    let e = plain_read c.self.inside.plans.now c.self.inside.task (plan_of c.plan.inside) c.index-plans-self.result c.plan.view_is c.index-plans-self.is (task_within c.self.inside c.self.invariant) in
    let to = c.max.ensures ∙ ap (λ n. max n c.self.inside.from) (c.min.ensures ∙ ap (λ n. min n c.plan.inside.total) c.saturating_sub-reach.ensures) in
    let size : length c.pass_releases-gap.new.next ≡ 16 = c.pass_releases-gap.auto.next ∙ c.self.invariant.size in
    record { fits = delay_fits c.self.inside c.self.invariant c.if-self.false (plan_of c.plan.inside) e c.max.result to c.if-stretch-plan.false c.pass_releases-gap.new.next c.pass_releases-gap.result size c.pass_releases-gap.ensures.next c.pass_releases-gap.ensures.gap }

pub invariant_of-self-else-stretch-plan : goal.invariant_of-self-else-stretch-plan
invariant_of-self-else-stretch-plan c =
    let e = plain_read c.self.inside.plans.now c.self.inside.task (plan_of c.plan.inside) c.index-plans-self.result c.plan.view_is c.index-plans-self.is (task_within c.self.inside c.self.invariant) in
    let to = c.max.ensures ∙ ap (λ n. max n c.self.inside.from) (c.min.ensures ∙ ap (λ n. min n c.plan.inside.total) c.saturating_sub-reach.ensures) in
    let size : length c.pass_releases-gap.new.next ≡ 16 = c.pass_releases-gap.auto.next ∙ c.self.invariant.size in
    stands_on c.self.inside c.self.invariant c.if-self.false (plan_of c.plan.inside) e c.max.result to c.if-stretch-plan.false c.pass_releases-gap.new.next c.pass_releases-gap.result size c.pass_releases-gap.ensures.next c.pass_releases-gap.ensures.gap

pub returns-then-stretch-plan-clause-some : goal.returns-then-stretch-plan-clause-some
returns-then-stretch-plan-clause-some c =
    let e = plain_read c.self.inside.plans.now c.self.inside.task (plan_of c.plan.inside) c.index-plans-self.result c.plan.view_is c.index-plans-self.is (task_within c.self.inside c.self.invariant) in
    let to = c.max.ensures ∙ ap (λ n. max n c.self.inside.from) (c.min.ensures ∙ ap (λ n. min n c.plan.inside.total) c.saturating_sub-reach.ensures) in
    rw (← c.self.view_is)
    (record {
      plan = plan_of c.plan.inside;
      is = stretch_is c.self.inside c.self.invariant c.if-self.false (plan_of c.plan.inside) e c.max.result to;
      on = record {
        plans = refl;
        task = refl;
        frame = refl;
        from = refl;
        count = let whole = c.if-stretch-plan.true in omega arith;
        left = next_left c.self.inside c.self.invariant c.if-self.false (plan_of c.plan.inside) e c.max.result to c.if-stretch-plan.true;
      };
    })

pub returns-else-stretch-plan-clause-some : goal.returns-else-stretch-plan-clause-some
returns-else-stretch-plan-clause-some c =
    let e = plain_read c.self.inside.plans.now c.self.inside.task (plan_of c.plan.inside) c.index-plans-self.result c.plan.view_is c.index-plans-self.is (task_within c.self.inside c.self.invariant) in
    let to = c.max.ensures ∙ ap (λ n. max n c.self.inside.from) (c.min.ensures ∙ ap (λ n. min n c.plan.inside.total) c.saturating_sub-reach.ensures) in
    let size : length c.pass_releases-gap.new.next ≡ 16 = c.pass_releases-gap.auto.next ∙ c.self.invariant.size in
    rw (← c.self.view_is)
    (record {
      plan = plan_of c.plan.inside;
      is = stretch_is c.self.inside c.self.invariant c.if-self.false (plan_of c.plan.inside) e c.max.result to;
      on = record { plans = refl; task = refl; frame = refl; from = refl; count = refl; left = on_left c.self.inside c.self.invariant c.if-self.false (plan_of c.plan.inside) e c.max.result to c.if-stretch-plan.false c.pass_releases-gap.new.next c.pass_releases-gap.result size c.pass_releases-gap.ensures.next c.pass_releases-gap.ensures.gap };
    })
