-- The plans of the worked sets, whole and sliced.
use Rattle.std.proofs.Common.{[], ◌∷◌, refl}
use Rattle.tcel_num.specs.Plan.{frame}
use Rattle.tcel_target.specs.Costs.{unit_costs}
use Rattle.tcel_cost.specs.Examples.{late_plans, often_task, overrunning, overrunning_plans, pair, pair_plans, rare_task, sliced_counter, sliced_counter_plan}
use Rattle.tcel_cost.specs.Plans.{ArePlans}
use Rattle.tcel_cost.specs.WholePlan.{AreWholePlans, IsWholePlan}
use Rattle.tcel_cost.proofs.Totals.{passes_last, passes_total, shows_last, shows_total, then_last, total_of}
use Rattle.tcel_cost.proofs.WindowedPlan.{windowed-plan}

pub pair-plans : AreWholePlans pair unit_costs pair_plans
pair-plans = (
  windowed-plan.0,
  (
    record {
      period = refl;
      first = 2;
      first_total = total_of 0 (then_last (shows_last 2) (passes_last 0));
      rest = 0;
      rest_total = passes_total 0 0;
      total = refl;
      windows = [];
      in_text = ([], 2, [], refl, shows_total 2 0, refl, refl);
      points = refl;
    },
    refl,
  ),
)

pub sliced-plan : ArePlans (sliced_counter ∷ []) unit_costs (sliced_counter_plan ∷ [])
sliced-plan = (
  record {
    period = refl;
    first = 3;
    first_total = total_of 0 (then_last (shows_last 1) (then_last (shows_last 2) (passes_last 0)));
    rest = 4;
    rest_total = total_of 0 (then_last (passes_last 4) (passes_last 0));
    total = refl;
    windows = [];
    in_text = ([], 1, [], refl, shows_total 1 0, ([], 3, [], refl, shows_total 2 1, refl, refl), refl);
    points = refl;
  },
  refl,
)

rare-plan : IsWholePlan rare_task unit_costs (record { period = 30; total = 4; points = record { prefix = 3; bound = 30; name = frame } ∷ [] })
rare-plan = record {
  period = refl;
  first = 2;
  first_total = total_of 0 (then_last (shows_last 2) (passes_last 0));
  rest = 0;
  rest_total = passes_total 0 0;
  total = refl;
  windows = [];
  in_text = ([], 2, [], refl, shows_total 2 0, refl, refl);
  points = refl;
}

pub overrunning-plans : ArePlans overrunning unit_costs overrunning_plans
overrunning-plans = (
  rare-plan,
  (
    record {
      period = refl;
      first = 1;
      first_total = total_of 0 (then_last (shows_last 1) (passes_last 0));
      rest = 2;
      rest_total = total_of 0 (then_last (passes_last 2) (passes_last 0));
      total = refl;
      windows = [];
      in_text = ([], 1, [], refl, shows_total 1 0, refl, refl);
      points = refl;
    },
    refl,
  ),
)

pub late-plans : AreWholePlans (rare_task ∷ often_task ∷ []) unit_costs late_plans
late-plans = (
  rare-plan,
  (
    record {
      period = refl;
      first = 3;
      first_total = total_of 0 (then_last (shows_last 1) (then_last (passes_last 2) (passes_last 0)));
      rest = 0;
      rest_total = passes_total 0 0;
      total = refl;
      windows = [];
      in_text = ([], 1, [], refl, shows_total 1 0, ([], 3, [], refl, passes_total 2 1, refl, refl), refl);
      points = refl;
    },
    refl,
  ),
)
