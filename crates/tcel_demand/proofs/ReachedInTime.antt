-- Where no point is ever late, each point that is reached is reached by its bound.
use Rattle.std.proofs.Common.{◌≡◌, ℕ, zero, suc, ◌+◌, ◌-◌, ◌*◌, ◌≤◌, List, subst, arith, Some, inl, inr}
use Rattle.std.specs.Prelude.{slice_get}
use Rattle.std.proofs.lemmas.Bool.{cases_lt}
use Rattle.tcel_num.specs.Lateness.{Place, IsFirstServed, IsResponse, IsNeverLate}
use Rattle.tcel_num.specs.Plan.{Plan, Point}
use Rattle.tcel_num.specs.Schedule.{served}
use Rattle.tcel_demand.proofs.Served.{served_mono}

-- the first time at which so many cycles are served, if there is one
first_time : (plans : List Plan) (task cycles later : ℕ) → cycles ≤ served plans later task → (time : ℕ) × IsFirstServed plans task cycles time × (time ≤ later)
first_time plans task cycles zero h = (0, record { there = h; before = λ earlier less. absurd (omega arith) }, omega arith)
first_time plans task cycles (suc later) h =
    elim (cases_lt (served plans later task) cycles) [
      | inl short ↦ (
        suc later,
        record { there = h; before = λ earlier less. let rises = served_mono plans earlier later task (omega arith) in omega arith },
        omega arith,
      )
      | inr there ↦ let sooner = first_time plans task cycles later there in (sooner.0, sooner.1, let most = sooner.2 in omega arith)
    ]

-- a point that is reached at all is reached by its bound
pub reached_in_time : (plans : List Plan) → IsNeverLate plans → (i f k : ℕ) (plan : Plan) (point : Point) → slice_get plans i ≡ Some plan → slice_get plan.points k ≡ Some point →
    (later : ℕ) → f * plan.total + point.prefix ≤ served plans later i →
    f * plan.total + point.prefix ≤ served plans (f * plan.period + point.bound) i
reached_in_time plans never i f k plan point of_plan of_point later h =
    let time = first_time plans i (f * plan.total + point.prefix) later h in
    elim (cases_lt (f * plan.period + point.bound) time.0) [
      | inl late ↦
          let response : ℕ = time.0 - f * plan.period in
          let at : time.0 ≡ f * plan.period + response = omega arith in
          let place : Place = record { task = i; frame = f; point = k } in
          let is : IsResponse plans place plan point response =
          record { of_task = of_plan; of_plan = of_point; reached = subst (IsFirstServed plans i (f * plan.total + point.prefix)) at time.1 } in
          absurd (never place (plan, point, response, is, omega arith))
      | inr soon ↦ let rises = served_mono plans time.0 (f * plan.period + point.bound) i soon in let there = time.1.there in omega arith
    ]
