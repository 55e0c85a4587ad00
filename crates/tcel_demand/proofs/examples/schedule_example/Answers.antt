use Rattle.std.proofs.Common.{◌≡◌, ℕ, zero, suc, ◌*◌, ◌<◌, ◌≤◌, [], ◌∷◌, Some, refl, ap, arith, lit<, lit≤}
use Rattle.std.specs.Prelude.{slice_get}
use Rattle.std.proofs.lemmas.List.Elements.{All-head, All-tail}
use Rattle.tcel_demand.specs.Examples.{two_plans, quick_plan, slow_plan, end_within}
use Rattle.tcel_demand.specs.Ticks.{IsPending}
use Rattle.tcel_demand.proofs.Fits.{two_plans_fit}
use Rattle.tcel_demand.proofs.PassedPlaces.{sound_point}
use Rattle.tcel_demand.proofs.Standings.{sound_at}
use Rattle.tcel_num.specs.Plan.{Plan}
use Rattle.tcel_num.specs.Schedule.{released, served}
use Rattle.tcel_demand.proofs.examples.schedule_example.Goals as goal

-- the quick task has nothing to do where all its cycles were served, and so has the slow one
quick_waits : (time : ℕ) → released quick_plan time ≤ served (two_plans 118) time 0 → IsPending (two_plans 118) time 0 → ⊥
quick_waits time h pending =
    let here : slice_get (two_plans 118) 0 ≡ Some pending.plan = pending.of_task in
    let same : quick_plan ≡ pending.plan = cc in
    let some = pending.some in
    let amount = ap (λ (p : Plan). released p time) same in
    omega arith

slow_waits : (time : ℕ) → released (slow_plan 118) time ≤ served (two_plans 118) time 1 → IsPending (two_plans 118) time 1 → ⊥
slow_waits time h pending =
    let here : slice_get (two_plans 118) 1 ≡ Some pending.plan = pending.of_task in
    let same : slow_plan 118 ≡ pending.plan = cc in
    let some = pending.some in
    let amount = ap (λ (p : Plan). released p time) same in
    omega arith

no_other : (time task : ℕ) → IsPending (two_plans 118) time (suc (suc task)) → ⊥
no_other time task pending = let e = pending.of_task in cc

pub returns-clause-serves : goal.returns-clause-serves
returns-clause-serves c = record {
  pending = record { plan = slow_plan 118; of_task = refl; some = lit< tt };
  highest = λ higher less. above higher less;
}
  where
    above : (higher : ℕ) → higher < 1 → IsPending (two_plans 118) 26 higher → ⊥
    above zero less = quick_waits 26 (lit≤ tt)
    above (suc n) less = λ pending. absurd (omega arith)

pub returns-clause-serves_highest : goal.returns-clause-serves_highest
returns-clause-serves_highest c = λ serves. serves.highest 0 (lit< tt) (record { plan = quick_plan; of_task = refl; some = lit< tt })

idle : (task : ℕ) → IsPending (two_plans 118) 694 task → ⊥
idle zero = quick_waits 694 (lit≤ tt)
idle (suc zero) = slow_waits 694 (lit≤ tt)
idle (suc (suc task)) = no_other 694 task

pub returns-clause-idle : goal.returns-clause-idle
returns-clause-idle c = idle

pub returns-clause-not_idle : goal.returns-clause-not_idle
returns-clause-not_idle c = λ none. none 1 (record { plan = slow_plan 118; of_task = refl; some = lit< tt })

pub returns-clause-fit : goal.returns-clause-fit
returns-clause-fit c = two_plans_fit 118 (lit< tt) (lit≤ tt)

-- 350 isn't a number of periods of 100
pub returns-clause-no_hyperperiod : goal.returns-clause-no_hyperperiod
returns-clause-no_hyperperiod c = λ fit.
    let P : ℕ → Type 0 = λ period. (k : ℕ) × (350 ≡ k * period) in
    let slow = All-head P 100 [] (All-tail P 70 (100 ∷ []) fit.within.period.common) in
    let e = slow.1 in
    omega arith

-- a bound of 0 isn't one
pub returns-clause-not_sound : goal.returns-clause-not_sound
returns-clause-not_sound c = λ fit. let some = (sound_point (slow_plan 0) 0 (end_within 62 0) (sound_at (two_plans 0) 1 (slow_plan 0) fit.within.sound refl) refl).bound_some in omega arith
