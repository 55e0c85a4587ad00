-- The worked example of a task with a `do` block.
use Rattle.std.proofs.Common.{◌≡◌, ℕ, zero, suc, ◌≤◌, [], ◌∷◌, Some, refl, arith, lit<, lit≤}
use Rattle.std.specs.Prelude.{All}
use Rattle.std.proofs.lemmas.List.Elements.{All-nil, All-cons}
use Rattle.tcel_num.specs.Lateness.{IsNeverLate}
use Rattle.tcel_demand.proofs.Hyperperiods.{own_hyperperiod, own_demand}
use Rattle.tcel_core.specs.Scope.{TaskFits}
use Rattle.tcel_target.specs.Costs.{unit_costs}
use Rattle.tcel_cost.specs.Examples.{windowed_task, windowed_plan}
use Rattle.std.specs.Prelude.{slice_get}
use Rattle.tcel_num.specs.Plan.{Point, before, within}
use Rattle.tcel_code.specs.Domination.{AreBoundBy}
use Rattle.tcel_code.specs.Examples.{waiting}
use Rattle.tcel_code.specs.Theorem.{RunsMeet}
use Rattle.tcel_cost.proofs.WindowedPlan.{windowed-plan}
use Rattle.tcel_code.proofs.InTime.{tested_in_time}
use Rattle.tcel_code.proofs.NeverLateSets.{whole_sets_meet}
use Rattle.tcel_target.proofs.Keys.{unit_in_range}

-- ---- in scope

pub windowed-task_fits : TaskFits windowed_task
windowed-task_fits = record { period = lit< tt; body = ((lit< tt, (record { operands = tt; scope = lit< tt }, tt)), tt); loops = ((tt, (tt, tt)), tt) }

pub windowed-fits : All TaskFits (windowed_task ∷ [])
windowed-fits = All-cons TaskFits windowed_task [] windowed-task_fits (All-nil TaskFits)

-- ---- in time

pub windowed-in_time : IsNeverLate (windowed_plan ∷ [])
windowed-in_time = tested_in_time (windowed_plan ∷ []) 10 (refl, refl, lit< tt, tt) (lit< tt) refl

pub windowed-meets : RunsMeet (windowed_task ∷ []) unit_costs (windowed_plan ∷ [])
windowed-meets =
    let all = own_demand windowed_plan (lit< tt) in
    whole_sets_meet (windowed_task ∷ []) unit_costs (windowed_plan ∷ []) 10 windowed-fits unit_in_range windowed-plan (own_hyperperiod windowed_plan (lit< tt)) (omega arith) windowed-in_time

-- ---- its points

pub windowed-bound : AreBoundBy windowed_plan.points (λ prefix. prefix ≤ 6) waiting
windowed-bound = (
  record { number = 2; point = record { prefix = 6; bound = 6; name = within 1 }; there = refl; named = refl; bounded = refl; so = lit≤ tt },
  record { number = 1; point = record { prefix = 4; bound = 5; name = before 1 }; there = refl; named = refl; bounded = refl; so = lit≤ tt },
  tt,
)

-- a point that is named `within 1` has the prefix 6
at_last : (number : ℕ) (point : Point) → slice_get windowed_plan.points number ≡ Some point → point.name ≡ within 1 → point.prefix ≡ 6
at_last zero point e named = absurd cc
at_last (suc zero) point e named = absurd cc
at_last (suc (suc zero)) point e named = cc
at_last (suc (suc (suc k))) point e named = absurd cc

pub windowed-no_sooner : ¬ (AreBoundBy windowed_plan.points (λ prefix. prefix ≤ 5) waiting)
windowed-no_sooner h = let own = h.0 in let last = at_last own.number own.point own.there own.named in let soon = own.so in omega arith
