-- The worst response of a point in the frames that a search has passed so far.
use Rattle.std.proofs.Common.{◌≡◌, ℕ, suc, ◌+◌, ◌*◌, ◌/◌, ◌<◌, ◌≤◌, List, Some, refl, sym, ap, subst, arith, add-one, inl, inr}
use Rattle.std.specs.Prelude.{◌⊎◌, slice_get}
use Rattle.std.proofs.Math.Nat.{mul-le-mul_right}
use Rattle.std.proofs.lemmas.Bool.{cases_lt, cases_eq}
use Rattle.tcel_num.specs.Lateness.{IsFirstServed, IsResponse, IsWorst}
use Rattle.tcel_num.specs.Plan.{Plan, Point}
use Rattle.tcel_num.specs.Schedule.{served}
use Rattle.tcel_demand.specs.Sound.{IsSoundPoint, AreSound, Fit, HasPoint}
use Rattle.tcel_demand.specs.Standing.{IsStep}
use Rattle.tcel_demand.specs.Ticks.{IsIdle}
use Rattle.tcel_demand.specs.WorstSteps.{Reaches, IsWorstWith}
use Rattle.tcel_demand.specs.declared.plan.Worst.{Worst}
use Rattle.tcel_demand.specs.declared.step.Step.{Step}
use Rattle.tcel_demand.proofs.PassedPlaces.{sound_point, same_cycle, at_step, first_time, low_of, passed_low}
use Rattle.tcel_demand.proofs.Standings.{sound_at}
use Rattle.tcel_demand.proofs.TickLemmas.{tick_idle, tick_leaves, none_at_first}
use Rattle.tcel_demand.proofs.WholeHyperperiods.{whole_hyperperiod}

-- of the frames that are passed where the task was served so much
pub record IsWorstOf (plans : List Plan) (task point : ℕ) (plan : Plan) (what : Point) (count : ℕ) (worst : Worst) : Type 0 where
  pub greatest : (frame response : ℕ) → IsResponse plans (record { task = task; frame = frame; point = point }) plan what response → frame * plan.total + what.prefix ≤ count → response ≤ worst.response
  pub earliest : (frame response : ℕ) → frame < worst.frame → IsResponse plans (record { task = task; frame = frame; point = point }) plan what response → response < worst.response
  pub met : ((count < what.prefix) × (worst.response ≡ 0)) ⊎ IsResponse plans (record { task = task; frame = worst.frame; point = point }) plan what worst.response

module _ (plans : List Plan) (task point : ℕ) (sound : AreSound plans) (has : HasPoint plans task point) where
  -- the frame has this response
  abbrev Responds : ℕ → ℕ → Type 0
  Responds frame response = IsResponse plans (record { task = task; frame = frame; point = point }) has.plan has.what response

  abbrev IsWorst_at : ℕ → Worst → Type 0
  IsWorst_at count worst = IsWorstOf plans task point has.plan has.what count worst

  mine : IsSoundPoint has.plan.total has.what
  mine = sound_point has.plan point has.what (sound_at plans task has.plan sound has.of_task) has.of_plan

  pub worst_none : IsWorst_at (served plans 0 task) (record { frame = 0; response = 0 })
  worst_none =
      let none = none_at_first plans task in
      let some = mine.prefix_some in
      record { greatest = λ frame response r passed. absurd (omega arith); earliest = λ frame response less r. absurd (omega arith); met = inl (omega arith, refl) }

  -- nothing new is passed
  pub worst_same : (old new : ℕ) (worst : Worst) → IsWorst_at old worst → ((frame : ℕ) → frame * has.plan.total + has.what.prefix ≤ new → frame * has.plan.total + has.what.prefix ≤ old) → IsWorst_at new worst
  worst_same old new worst h same = record {
    greatest = λ frame response r passed. h.greatest frame response r (same frame passed);
    earliest = h.earliest;
    met = elim h.met [
      | inl none ↦ elim (cases_lt new has.what.prefix) [ inl short ↦ inl (short, none.1) | inr there ↦ let before = same 0 (omega arith) in let few = none.0 in absurd (omega arith) ]
      | inr met ↦ inr met
    ];
  }

  -- one frame more is passed, with this response
  module _ (old new : ℕ) (worst : Worst) (h : IsWorst_at old worst) (at after : ℕ) (later : 0 < after)
      (only : (frame response : ℕ) → Responds frame response → old < frame * has.plan.total + has.what.prefix → frame * has.plan.total + has.what.prefix ≤ new → response ≡ after) where
    all_within : (bound : ℕ) → worst.response ≤ bound → after ≤ bound → (frame response : ℕ) → Responds frame response → frame * has.plan.total + has.what.prefix ≤ new → response ≤ bound
    all_within bound most more frame response r passed =
        elim (cases_lt old (frame * has.plan.total + has.what.prefix)) [
          | inr before ↦ let least = h.greatest frame response r before in omega arith
          | inl next ↦ let same = only frame response r next passed in omega arith
        ]

    pub worst_kept : after ≤ worst.response → IsWorst_at new worst
    worst_kept most = record {
      greatest = all_within worst.response (omega arith) most;
      earliest = h.earliest;
      met = elim h.met [ inl none ↦ let zero_yet = none.1 in absurd (omega arith) | inr met ↦ inr met ];
    }

    pub worst_grown : Responds at after → ((low : ℕ) → low < at → low * has.plan.total + has.what.prefix ≤ old) → worst.response < after → (next : Worst) → next.frame ≡ at → next.response ≡ after → IsWorst_at new next
    worst_grown responds before more next frame response = record {
      greatest = all_within next.response (omega arith) (omega arith);
      earliest = λ low r less is. let most = h.greatest low r is (before low (omega arith)) in omega arith;
      met = inr (subst (λ f. Responds f next.response) (sym frame) (subst (λ r. Responds at r) (sym response) responds));
    }

  -- the frames before one are passed where the one before it is served
  pub frames_before : (at count : ℕ) → at * has.plan.total ≤ count → (low : ℕ) → low < at → low * has.plan.total + has.what.prefix ≤ count
  frames_before at count h low less =
      let all : suc low * has.plan.total ≤ at * has.plan.total = mul-le-mul_right has.plan.total less in
      let within = mine.prefix_within in
      omega arith

  module _ (time : ℕ) (worst : Worst) (h : IsWorst_at (served plans time task) worst) where
    pub worst_idle : IsIdle plans time → IsWorst_at (served plans (suc time) task) worst
    worst_idle idle = let same = tick_idle plans time idle task in worst_same (served plans time task) (served plans (suc time) task) worst h (λ frame passed. omega arith)

    module _ (step : Step) (is : IsStep plans time step) where
      plan_is : step.task ≡ task → has.plan ≡ is.plan
      plan_is same = let mine_is = has.of_task in let there : slice_get plans task ≡ Some is.plan = subst (λ i. slice_get plans i ≡ Some is.plan) same is.of_task in cc

      count_is : step.task ≡ task → (served plans (suc time) task ≡ step.frame * has.plan.total + step.cycles) × (served plans time task + 1 ≡ step.frame * has.plan.total + step.cycles) × (step.cycles ≤ has.plan.total)
      count_is same =
          let total = ap (λ (p : Plan). step.frame * p.total) (plan_is same) in
          let each = ap (λ (p : Plan). p.total) (plan_is same) in
          let now = ap (λ i. served plans (suc time) i) same in
          let then = ap (λ i. served plans time i) same in
          let done = is.done in
          let before = is.before in
          let within = is.within in
          (omega arith, omega arith, omega arith)

      pub worst_elsewhere : ¬ Reaches task has.what.prefix step → IsWorst_at (served plans (suc time) task) worst
      worst_elsewhere other =
          elim (cases_eq task step.task) [
            | inr apart ↦ let same = tick_leaves plans time step.task task is.serves apart in worst_same (served plans time task) (served plans (suc time) task) worst h (λ frame passed. omega arith)
            | inl same ↦
                let count = count_is (sym same) in
                let now = count.0 in
                let before = count.1 in
                worst_same (served plans time task) (served plans (suc time) task) worst h (λ frame passed. elim (cases_lt (served plans time task) (frame * has.plan.total + has.what.prefix)) [
                  | inr old ↦ old
                  | inl new ↦
                      let at = same_cycle has.plan.total frame has.what.prefix step.frame step.cycles mine.prefix_some mine.prefix_within is.some count.2 (omega arith) in
                      absurd (other (record { of_task = sym same; at_prefix = sym at.1 }))
                ])
          ]

      -- the frame that is passed is that of the step
      new_frame : Reaches task has.what.prefix step → (frame response : ℕ) → Responds frame response → served plans time task < frame * has.plan.total + has.what.prefix → frame * has.plan.total + has.what.prefix ≤ served plans (suc time) task → response ≡ step.response
      new_frame reaches frame response r later now =
          let then = ap (λ i. served plans time i) reaches.of_task in
          let here = ap (λ i. served plans (suc time) i) reaches.of_task in
          (at_step plans time step sound is (record { task = task; frame = frame; point = point }) has.plan has.what response (sym reaches.of_task) r (omega arith) (omega arith)).response_is

      step_responds : Reaches task has.what.prefix step → Responds step.frame step.response
      step_responds reaches =
          let first = first_time plans time step sound is in
          let same = plan_is reaches.of_task in
          let total = ap (λ (p : Plan). step.frame * p.total) same in
          let period = ap (λ (p : Plan). step.frame * p.period) same in
          let prefix = reaches.at_prefix in
          let response = is.response in
          let much : step.frame * is.plan.total + step.cycles ≡ step.frame * has.plan.total + has.what.prefix = omega arith in
          let when : suc time ≡ step.frame * has.plan.period + step.response = omega arith in
          record {
            of_task = has.of_task;
            of_plan = has.of_plan;
            reached = subst (λ i. IsFirstServed plans i (step.frame * has.plan.total + has.what.prefix) (step.frame * has.plan.period + step.response)) reaches.of_task
                (subst (λ n. IsFirstServed plans step.task n (step.frame * has.plan.period + step.response)) much (subst (IsFirstServed plans step.task (step.frame * is.plan.total + step.cycles)) when first));
          }

      pub step_kept : Reaches task has.what.prefix step → step.response ≤ worst.response → IsWorst_at (served plans (suc time) task) worst
      step_kept reaches most = worst_kept (served plans time task) (served plans (suc time) task) worst h step.frame step.response is.later (new_frame reaches) most

      pub step_grown : Reaches task has.what.prefix step → worst.response < step.response → (next : Worst) → next.frame ≡ step.frame → next.response ≡ step.response → IsWorst_at (served plans (suc time) task) next
      step_grown reaches more next frame response =
          let before = (count_is reaches.of_task).1 in
          let some = is.some in
          worst_grown (served plans time task) (served plans (suc time) task) worst h step.frame step.response is.later (new_frame reaches) (step_responds reaches)
          (frames_before step.frame (served plans time task) (omega arith)) more next frame response

  -- one tick more
  module _ (time : ℕ) (worst : Worst) (h : IsWorst_at (served plans time task) worst) where
    on : (next : Worst) → IsWorst_at (served plans (suc time) task) next → IsWorst_at (served plans (time + 1) task) next
    on next g = subst (λ t. IsWorst_at (served plans t task) next) (sym (add-one time)) g

    pub tick_without : IsIdle plans time → IsWorst_at (served plans (time + 1) task) worst
    tick_without idle = on worst (worst_idle time worst h idle)

    with_step : (step : Step) → IsStep plans time step → (next : Worst) → IsWorstWith task has.what.prefix step worst next → IsWorst_at (served plans (suc time) task) next
    with_step step is next (inl (other, same)) = subst (λ n. IsWorst_at (served plans (suc time) task) n) (sym same) (worst_elsewhere time worst h step is other)
    with_step step is next (inr (inl (reaches, most, same))) = subst (λ n. IsWorst_at (served plans (suc time) task) n) (sym same) (step_kept time worst h step is reaches most)
    with_step step is next (inr (inr (reaches, more, frame, response))) = step_grown time worst h step is reaches more next frame response

    pub tick_with : (step : Step) → IsStep plans time step → (prefix : ℕ) → prefix ≡ has.what.prefix → (next : Worst) → IsWorstWith task prefix step worst next → IsWorst_at (served plans (time + 1) task) next
    tick_with step is prefix same next g = on next (with_step step is next (subst (λ p. IsWorstWith task p step worst next) same g))

  -- at the end of a hyperperiod
  pub worst_over : (hyper : ℕ) (worst : Worst) → Fit plans hyper → IsWorst_at (served plans hyper task) worst → IsWorst plans task point worst.frame worst.response
  worst_over hyper worst fit h =
      let some = fit.within.period.positive in
      let whole = whole_hyperperiod plans hyper some fit.within.period.common fit.room in
      let first = low_of plans hyper some sound whole task 0 has.plan has.of_task in
      let passed : (frame low : ℕ) → low < hyper / has.plan.period → low * has.plan.total + has.what.prefix ≤ served plans hyper task =
      λ frame low within. (passed_low plans hyper some sound whole task low point has.plan has.of_task within).reached has.plan has.what has.of_task has.of_plan in
      record {
        plan = has.plan;
        what = has.what;
        reached = elim h.met [
          | inl none ↦
              let all = passed 0 first.0 first.1.within in
              let few = none.0 in
              absurd (omega arith)
          | inr met ↦ met
        ];
        greatest = λ frame response r.
            let low = low_of plans hyper some sound whole task frame has.plan has.of_task in
            h.greatest low.0 response (low.1.responds point has.what response r) (passed frame low.0 low.1.within);
        earliest = h.earliest;
      }
