-- The places that the demand schedule has passed at a time, tick by tick, and at the end of a hyperperiod.
use Rattle.std.proofs.Common.{◌≡◌, ℕ, suc, ◌+◌, ◌*◌, ◌/◌, ◌%◌, ◌<◌, ◌≤◌, List, get_or, refl, sym, ap, ◌∙◌, subst, arith, Some, None, Option, inl, inr, add-one}
use Rattle.std.specs.Prelude.{◌⊎◌, slice_get, MatchOption}
use Rattle.std.proofs.Math.Nat.{div-add-mod', mod-lt, mul-le-mul_right}
use Rattle.std.proofs.lemmas.Bool.{cases_lt, cases_eq, cases_order}
use Rattle.std.proofs.lemmas.Option.{slice_get_within, get_or_from_slice_get}
use Rattle.tcel_num.specs.Lateness.{Place, Lateness, IsFirstServed, IsResponse, IsLate, IsNeverLate, IsFirstLate}
use Rattle.tcel_num.specs.Plan.{Plan, Point}
use Rattle.tcel_num.specs.Schedule.{served_counts, served}
use Rattle.tcel_demand.specs.LateSteps.{IsLateIn, IsLateStep, IsEarlier}
use Rattle.tcel_demand.specs.Sound.{IsSoundPlan, IsSoundPoint, AreSound, Fit}
use Rattle.tcel_demand.specs.Standing.{IsStep}
use Rattle.tcel_demand.specs.Ticks.{IsIdle}
use Rattle.tcel_demand.specs.declared.step.Step.{Step}
use Rattle.tcel_demand.proofs.FirstLates.{IsTold, IsFrom, HasPassed, IsFirstOf, none_more, one_more, never, first_late}
use Rattle.tcel_demand.proofs.PlainReads.{plain_read}
use Rattle.tcel_demand.proofs.Responses.{earlier_by}
use Rattle.tcel_demand.proofs.Served.{AreWhole, whole_at, served_mono}
use Rattle.tcel_demand.proofs.Standings.{sound_at}
use Rattle.tcel_demand.proofs.TickLemmas.{tick_idle, tick_leaves, none_at_first}
use Rattle.tcel_demand.proofs.WholeHyperperiods.{whole_hyperperiod}

-- so many cycles are served by then
pub record IsPassed (plans : List Plan) (time : ℕ) (place : Place) : Type 0 where
  pub reached : (plan : Plan) (point : Point) → slice_get plans place.task ≡ Some plan → slice_get plan.points place.point ≡ Some point →
      place.frame * plan.total + point.prefix ≤ served plans time place.task

pub sound_point : (plan : Plan) (k : ℕ) (point : Point) → IsSoundPlan plan → slice_get plan.points k ≡ Some point → IsSoundPoint plan.total point
sound_point plan k point sound e =
    subst (IsSoundPoint plan.total) (get_or_from_slice_get plan.points k point point e) (sound.points k point (slice_get_within plan.points k point e))

-- a cycle's frame and its number in it, from 1, are its own
pub same_cycle : (total f p g x : ℕ) → 0 < p → p ≤ total → 0 < x → x ≤ total → f * total + p ≡ g * total + x → (f ≡ g) × (p ≡ x)
same_cycle total f p g x some most more least e =
    elim (cases_order f g) [
      | inl same ↦ let product = ap (λ n. n * total) same in (same, omega arith)
      | inr (inl less) ↦ let next : suc f * total ≤ g * total = mul-le-mul_right total less in absurd (omega arith)
      | inr (inr less) ↦ let next : suc g * total ≤ f * total = mul-le-mul_right total less in absurd (omega arith)
    ]

pub nothing_passed : (plans : List Plan) → AreSound plans → (place : Place) → IsPassed plans 0 place → IsLate plans place → ⊥
nothing_passed plans sound place passed (plan, point, response, responds, above) =
    let some = (sound_point plan place.point point (sound_at plans place.task plan sound responds.of_task) responds.of_plan).prefix_some in
    let reached = passed.reached plan point responds.of_task responds.of_plan in
    let none = none_at_first plans place.task in
    omega arith

pub passed_idle : (plans : List Plan) (time : ℕ) → IsIdle plans time → (place : Place) → IsPassed plans (suc time) place → IsPassed plans time place
passed_idle plans time idle place passed =
    record { reached = λ plan point e f. let h = passed.reached plan point e f in let same = tick_idle plans time idle place.task in omega arith }

-- a late place that one tick passes is one of its step
pub record IsOfStep (plans : List Plan) (step : Step) (place : Place) : Type 0 where
  pub task : place.task ≡ step.task
  pub frame : place.frame ≡ step.frame
  pub plan : Plan
  pub of_task : slice_get plans step.task ≡ Some plan
  pub is : IsLateIn plan step place.point

module _ (plans : List Plan) (time : ℕ) (step : Step) (sound : AreSound plans) (is : IsStep plans time step) where
  -- it is the first time at which so much is served
  pub first_time : IsFirstServed plans step.task (step.frame * is.plan.total + step.cycles) (suc time)
  first_time =
      let done = is.done in
      let before = is.before in
      record { there = omega arith; before = λ earlier less. let rises = served_mono plans earlier time step.task (omega arith) in omega arith }

  -- a point that this tick passes is reached by its step, which has its response
  pub record IsAtStep (plan : Plan) (place : Place) (point : Point) (response : ℕ) : Type 0 where
    pub frame : place.frame ≡ step.frame
    pub prefix : point.prefix ≡ step.cycles
    pub response_is : response ≡ step.response

  pub at_step : (place : Place) (plan : Plan) (point : Point) (response : ℕ) → place.task ≡ step.task → IsResponse plans place plan point response →
      served plans time step.task < place.frame * plan.total + point.prefix → place.frame * plan.total + point.prefix ≤ served plans (suc time) step.task → IsAtStep plan place point response
  at_step place plan point response same responds later now =
      let there : slice_get plans step.task ≡ Some plan = subst (λ i. slice_get plans i ≡ Some plan) same responds.of_task in
      let mine : slice_get plans step.task ≡ Some is.plan = is.of_task in
      let plans_same : is.plan ≡ plan = cc in
      let total = ap (λ (p : Plan). p.total) plans_same in
      let mine_total = ap (λ n. step.frame * n) total in
      let mine_period = ap (λ (p : Plan). step.frame * p.period) plans_same in
      let point_sound = sound_point plan place.point point (sound_at plans place.task plan sound responds.of_task) responds.of_plan in
      let done = is.done in
      let before = is.before in
      let least = is.within in
      let cycle = same_cycle plan.total place.frame point.prefix step.frame step.cycles point_sound.prefix_some point_sound.prefix_within is.some (omega arith) (omega arith) in
      let frame : place.frame ≡ step.frame = cycle.0 in
      let at = ap (λ n. n * plan.period) frame in
      let reached : ℕ = place.frame * plan.period + response in
      let here : served plans reached place.task ≡ served plans reached step.task = ap (λ i. served plans reached i) same in
      let when : reached ≡ suc time = elim (cases_order reached (suc time)) [
        | inl e ↦ e
        | inr (inl early) ↦
            let there_by = responds.reached.there in
            let rises = served_mono plans reached time step.task (omega arith) in
            absurd (omega arith)
        | inr (inr late) ↦
            let short = responds.reached.before (suc time) late in
            let there_now : served plans (suc time) place.task ≡ served plans (suc time) step.task = ap (λ i. served plans (suc time) i) same in
            absurd (omega arith)
      ] in
      let response_is = is.response in
      record { frame = frame; prefix = cycle.1; response_is = omega arith }

  -- where the point is late, it is a late place of the step
  at_cycle : (place : Place) (plan : Plan) (point : Point) (response : ℕ) → place.task ≡ step.task → IsResponse plans place plan point response → point.bound < response →
      served plans time step.task < place.frame * plan.total + point.prefix → place.frame * plan.total + point.prefix ≤ served plans (suc time) step.task → IsOfStep plans step place
  at_cycle place plan point response same responds above later now =
      let at = at_step place plan point response same responds later now in
      let response_is = at.response_is in
      record {
        task = same;
        frame = at.frame;
        plan = plan;
        of_task = subst (λ i. slice_get plans i ≡ Some plan) same responds.of_task;
        is = record { point = point; of_plan = responds.of_plan; reached = at.prefix; above = omega arith };
      }

  pub passed_step : (place : Place) → IsPassed plans (suc time) place → IsLate plans place → (IsPassed plans time place) ⊎ (IsOfStep plans step place)
  passed_step place passed (plan, point, response, responds, above) =
      let now = passed.reached plan point responds.of_task responds.of_plan in
      elim (cases_eq place.task step.task) [
        | inr apart ↦
            let left = tick_leaves plans time step.task place.task is.serves apart in
            inl (record { reached = λ p q e f. let h = passed.reached p q e f in omega arith })
        | inl same ↦
            let here : served plans (suc time) place.task ≡ served plans (suc time) step.task = ap (λ i. served plans (suc time) i) same in
            let before : served plans time place.task ≡ served plans time step.task = ap (λ i. served plans time i) same in
            elim (cases_lt (served plans time step.task) (place.frame * plan.total + point.prefix)) [
              | inl later ↦ inr (at_cycle place plan point response same responds above later (omega arith))
              | inr sooner ↦ inl (record { reached = λ p q e f. passed_at place plan point p q responds e f (omega arith) })
            ]
      ]
    where
      passed_at : (place : Place) (plan : Plan) (point : Point) (p : Plan) (q : Point) {response : ℕ} → IsResponse plans place plan point response → slice_get plans place.task ≡ Some p → slice_get p.points place.point ≡ Some q →
          place.frame * plan.total + point.prefix ≤ served plans time place.task → place.frame * p.total + q.prefix ≤ served plans time place.task
      passed_at place plan point p q responds e f h =
          let of_task = responds.of_task in
          let same : plan ≡ p = cc in
          let of_plan : slice_get p.points place.point ≡ Some point = subst (λ (r : Plan). slice_get r.points place.point ≡ Some point) same responds.of_plan in
          let point_same : point ≡ q = cc in
          let total = ap (λ (r : Plan). place.frame * r.total) same in
          let prefix = ap (λ (r : Point). r.prefix) point_same in
          omega arith

  -- what is told of the first late point of the step is so
  pub step_told : (plan : Plan) (late : Lateness) → slice_get plans step.task ≡ Some plan → IsLateStep plan step late → IsTold plans late
  step_told plan late e h =
      let mine : slice_get plans step.task ≡ Some is.plan = is.of_task in
      let plans_same : is.plan ≡ plan = cc in
      let total = ap (λ (p : Plan). step.frame * p.total) plans_same in
      let period = ap (λ (p : Plan). step.frame * p.period) plans_same in
      let frame_total = ap (λ n. n * plan.total) h.frame in
      let frame_period = ap (λ n. n * plan.period) h.frame in
      let response = h.response in
      let step_response = is.response in
      let reached = h.is.reached in
      let when : suc time ≡ late.frame * plan.period + late.response = omega arith in
      let much : step.frame * is.plan.total + step.cycles ≡ late.frame * plan.total + h.is.point.prefix = omega arith in
      let bounded = h.bounded in
      let above = h.is.above in
      record {
        plan = plan;
        point = h.is.point;
        responds = record {
          of_task = subst (λ i. slice_get plans i ≡ Some plan) (sym h.task) e;
          of_plan = h.is.of_plan;
          reached = subst (λ i. IsFirstServed plans i (late.frame * plan.total + h.is.point.prefix) (late.frame * plan.period + late.response)) (sym h.task)
              (subst (λ n. IsFirstServed plans step.task n (late.frame * plan.period + late.response)) much (subst (IsFirstServed plans step.task (step.frame * is.plan.total + step.cycles)) when first_time));
        };
        named = h.named;
        bounded = h.bounded;
        above = omega arith;
      }

  -- the other late points of the step come behind it
  pub step_from : (plan : Plan) (late : Lateness) (place : Place) → slice_get plans step.task ≡ Some plan → IsLateStep plan step late → IsOfStep plans step place → IsFrom late place
  step_from plan late place e h of =
      let there : slice_get plans step.task ≡ Some of.plan = of.of_task in
      let same : of.plan ≡ plan = cc in
      let here : IsLateIn plan step place.point = subst (λ (p : Plan). IsLateIn p step place.point) same of.is in
      record {
        task = of.task ∙ sym h.task;
        frame = of.frame ∙ sym h.frame;
        point = elim (cases_lt place.point late.point) [ inl before ↦ absurd (h.first place.point before here) | inr behind ↦ behind ];
      }

-- ---- the end of a hyperperiod

module _ (plans : List Plan) (hyper : ℕ) (some : 0 < hyper) (sound : AreSound plans) (whole : AreWhole plans hyper (served_counts plans hyper)) where
  -- a frame of the hyperperiod stands for every frame: it has the same responses, and its points are passed
  pub record IsLow (task frame low : ℕ) (plan : Plan) : Type 0 where
    pub no_later : low ≤ frame
    pub within : low < hyper / plan.period
    pub responds : (k : ℕ) (point : Point) (response : ℕ) → IsResponse plans (record { task = task; frame = frame; point = k }) plan point response →
        IsResponse plans (record { task = task; frame = low; point = k }) plan point response

  pub low_of : (task frame : ℕ) (plan : Plan) → slice_get plans task ≡ Some plan → (low : ℕ) × IsLow task frame low plan
  low_of task frame plan e =
      let w = whole_at plans hyper (served_counts plans hyper) task plan whole e in
      let frames : ℕ = hyper / plan.period in
      let periods : hyper ≡ plan.period * frames = w.periods in
      let many : 0 < frames = elim (cases_lt 0 frames) [
        | inl h ↦ h
        | inr none ↦ let zero_frames : frames ≡ 0 = omega arith in let nothing = ap (λ n. plan.period * n) zero_frames in absurd (omega arith)
      ] in
      let split : frame ≡ frame / frames * frames + frame % frames = sym (div-add-mod' frame frames) in (
        frame % frames,
        record {
          no_later = omega arith;
          within = mod-lt frame many;
          responds = λ k point response r.
              earlier_by (frame / frames) plans hyper task (frame % frames) k plan point response whole
              (subst (λ (q : ℕ). IsResponse plans (record { task = task; frame = q; point = k }) plan point response) split r);
        },
      )

  -- all points of its frames are passed
  pub passed_low : (task low k : ℕ) (plan : Plan) → slice_get plans task ≡ Some plan → low < hyper / plan.period → IsPassed plans hyper (record { task = task; frame = low; point = k })
  passed_low task low k plan e within =
      let w = whole_at plans hyper (served_counts plans hyper) task plan whole e in
      let count = w.frames in
      let next : suc low * plan.total ≤ hyper / plan.period * plan.total = mul-le-mul_right plan.total within in
      record {
        reached = λ p q of_task of_plan.
            let same : p ≡ plan = cc in
            let total = ap (λ (r : Plan). low * r.total) same in
            let each = ap (λ (r : Plan). r.total) same in
            let most = (sound_point p k q (sound_at plans task p sound of_task) of_plan).prefix_within in
            omega arith;
      }

  -- each late point has been met in one of its frames
  pub passed_whole : (place : Place) → IsLate plans place → HasPassed plans (IsPassed plans hyper) place
  passed_whole place (plan, point, response, responds, above) =
      let low = low_of place.task place.frame plan responds.of_task in
      record {
        frame = low.0;
        no_later = low.1.no_later;
        passed = passed_low place.task low.0 place.point plan responds.of_task low.1.within;
        late = (plan, point, response, low.1.responds place.point point response responds, above);
      }

-- ---- the search for the first late point, tick by tick

module _ (plans : List Plan) (time : ℕ) (first : Option Lateness) (search : IsFirstOf plans (IsPassed plans time) first) where
  on : (next : Option Lateness) → IsFirstOf plans (IsPassed plans (suc time)) next → IsFirstOf plans (IsPassed plans (time + 1)) next
  on next h = subst (λ t. IsFirstOf plans (IsPassed plans t) next) (sym (add-one time)) h

  pub search_idle : IsIdle plans time → IsFirstOf plans (IsPassed plans (time + 1)) first
  search_idle idle = on first (none_more plans (IsPassed plans time) (IsPassed plans (suc time)) first search (λ place passed late. passed_idle plans time idle place passed))

  module _ (sound : AreSound plans) (step : Step) (is : IsStep plans time step) (plan : Plan) (read : plan ≡ get_or plans step.task plan) where
    of_step : slice_get plans step.task ≡ Some plan
    of_step = plain_read plans step.task plan plan refl read (slice_get_within plans step.task is.plan is.of_task)

    pub search_none : ((place : ℕ) → IsLateIn plan step place → ⊥) → IsFirstOf plans (IsPassed plans (time + 1)) first
    search_none none =
        on first (none_more plans (IsPassed plans time) (IsPassed plans (suc time)) first search (λ place passed late. elim (passed_step plans time step sound is place passed late) [
          | inl old ↦ old
          | inr of ↦
              let there : slice_get plans step.task ≡ Some of.plan = of.of_task in
              let mine = of_step in
              let same : of.plan ≡ plan = cc in
              absurd (none place.point (subst (λ (p : Plan). IsLateIn p step place.point) same of.is))
        ]))

    pub search_late : (late next : Lateness) → IsLateStep plan step late → IsEarlier first late next → IsFirstOf plans (IsPassed plans (time + 1)) (Some next)
    search_late late next h earlier =
        on (Some next) (one_more plans (IsPassed plans time) (IsPassed plans (suc time)) first late next search (step_told plans time step sound is plan late of_step h)
        (λ place passed is_late. elim (passed_step plans time step sound is place passed is_late) [
          | inl old ↦ inl old
          | inr of ↦ inr (step_from plans time step sound is plan late place of_step h of)
        ]) earlier)

-- at its end
pub search_over : (plans : List Plan) (hyper : ℕ) (first : Option Lateness) → Fit plans hyper → IsFirstOf plans (IsPassed plans hyper) first → MatchOption first (IsNeverLate plans) (IsFirstLate plans)
search_over plans hyper None fit search =
    let whole = whole_hyperperiod plans hyper fit.within.period.positive fit.within.period.common fit.room in
    never plans (IsPassed plans hyper) (passed_whole plans hyper fit.within.period.positive fit.within.sound whole) search
search_over plans hyper (Some late) fit search =
    let whole = whole_hyperperiod plans hyper fit.within.period.positive fit.within.period.common fit.room in
    first_late plans (IsPassed plans hyper) late (passed_whole plans hyper fit.within.period.positive fit.within.sound whole) search
