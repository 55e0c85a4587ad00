-- The worked sets: in scope, in time, and their traces.
use Rattle.std.proofs.Common.{◌≡◌, [], ◌∷◌, refl, arith, lit<, lit≤}
use Rattle.std.specs.Prelude.{All}
use Rattle.std.specs.Int.{int_wrap}
use Rattle.std.proofs.lemmas.List.Elements.{All-nil, All-cons}
use Rattle.tcel_num.specs.Hyperperiod.{IsHyperperiod}
use Rattle.tcel_num.specs.Lateness.{IsNeverLate}
use Rattle.tcel_num.specs.Plan.{Plan, Point, frame}
use Rattle.tcel_num.proofs.CommonMultiples.{two}
use Rattle.std.proofs.lemmas.Nat.Gcd.{IsGcd-from_zero, IsGcd-from_mod}
use Rattle.tcel_demand.proofs.Hyperperiods.{own_hyperperiod, own_demand}
use Rattle.tcel_demand.proofs.Responses.{responds}
use Rattle.tcel_core.specs.Scope.{TaskFits}
use Rattle.tcel_target.proofs.Keys.{unit_in_range}
use Rattle.tcel_target.specs.Costs.{unit_costs}
use Rattle.tcel_image.specs.Machine.{trace}
use Rattle.tcel_cost.specs.Examples.{late_plans, often_task, overrunning, overrunning_plans, pair, pair_plans, rare_task, sliced_counter, sliced_counter_plan, sliced_often, telling_task, windowed_task}
use Rattle.tcel_cost.specs.Forms.{whole_form}
use Rattle.tcel_cost.proofs.FormPlans.{overrunning-plans, pair-plans, sliced-plan}
use Rattle.tcel_code.specs.Examples.{sliced_streams, sliced_trace}
use Rattle.tcel_code.specs.Layout.{layout}
use Rattle.tcel_code.specs.PartsFit.{PartsFit, PartsMean}
use Rattle.tcel_code.specs.Theorem.{RunsMeet, RunsOfFormsMeet}
use Rattle.tcel_code.proofs.InTime.{tested_in_time}
use Rattle.tcel_code.proofs.NeverLateSets.{sets_meet, whole_fits, whole_sets_meet}
use Rattle.tcel_code.proofs.WindowedExample.{windowed-task_fits}

-- ---- two tasks, of which the higher waits in a block

telling-fits : TaskFits telling_task
telling-fits = record { period = lit< tt; body = (record { operands = tt; scope = lit< tt }, tt); loops = (tt, tt) }

pub pair-fits : All TaskFits pair
pair-fits = All-cons TaskFits windowed_task (telling_task ∷ []) windowed-task_fits (All-cons TaskFits telling_task [] telling-fits (All-nil TaskFits))

pub pair-in_time : IsNeverLate pair_plans
pair-in_time = tested_in_time pair_plans 20 (refl, refl, lit< tt, (refl, refl, lit< tt, tt)) (lit< tt) refl

pair-hyper : IsHyperperiod pair_plans 20
pair-hyper = two 10 20 10 (lit< tt) (lit< tt) (IsGcd-from_mod 10 20 10 (IsGcd-from_mod 20 10 10 (IsGcd-from_zero 10 0 refl)))

pub pair-meets : RunsMeet pair unit_costs pair_plans
pair-meets = whole_sets_meet pair unit_costs pair_plans 20 pair-fits unit_in_range pair-plans pair-hyper (lit≤ tt) pair-in_time

-- ---- a task that is sliced

counter-means : PartsMean sliced_counter.task sliced_counter.parts
counter-means [] inputs long = absurd (omega arith)
counter-means (n ∷ []) inputs long = record { events = refl; silent = refl; inputs = refl; states = refl }
counter-means (n ∷ (m ∷ more)) inputs long = absurd (omega arith)

pub sliced-fits : All PartsFit (sliced_counter ∷ [])
sliced-fits =
    All-cons PartsFit sliced_counter []
    (record {
      period = lit< tt;
      states = refl;
      first = (lit< tt, (record { operands = tt; scope = lit< tt }, tt));
      rest = ((lit< tt, record { operands = (refl, tt, tt); scope = (lit< tt, tt) }), tt);
      untimed = (tt, (tt, tt));
      first_counters = (λ some. absurd (omega arith), (λ some. absurd (omega arith), tt));
      rest_counters = (λ some. absurd (omega arith), tt);
      mean = counter-means;
    })
    (All-nil PartsFit)

pub sliced-in_time : IsNeverLate (sliced_counter_plan ∷ [])
sliced-in_time = tested_in_time (sliced_counter_plan ∷ []) 10 (refl, refl, lit< tt, tt) (lit< tt) refl

pub sliced-meets : RunsOfFormsMeet (sliced_counter ∷ []) unit_costs (sliced_counter_plan ∷ [])
sliced-meets =
    let all = own_demand sliced_counter_plan (lit< tt) in
    sets_meet (sliced_counter ∷ []) unit_costs (sliced_counter_plan ∷ []) 10 sliced-fits unit_in_range sliced-plan (own_hyperperiod sliced_counter_plan (lit< tt)) (omega arith) sliced-in_time

pub sliced-trace : trace (layout (sliced_counter ∷ []) unit_costs) sliced_streams 10 ≡ sliced_trace
unfolding int_wrap
sliced-trace = refl

-- ---- a rest that runs past its period

rare-fits : PartsFit (whole_form rare_task)
rare-fits = whole_fits rare_task (record { period = lit< tt; body = (record { operands = tt; scope = tt }, tt); loops = (tt, tt) })

often-means : PartsMean often_task sliced_often.parts
often-means [] inputs long = absurd (omega arith)
often-means (y ∷ []) inputs long = record { events = refl; silent = refl; inputs = refl; states = refl }
often-means (y ∷ (z ∷ more)) inputs long = absurd (omega arith)

often-fits : PartsFit sliced_often
often-fits = record {
  period = lit< tt;
  states = refl;
  first = (lit< tt, tt);
  rest = ((lit< tt, record { operands = tt; scope = lit< tt }), tt);
  untimed = (tt, tt);
  first_counters = (λ some. absurd (omega arith), tt);
  rest_counters = (λ some. absurd (omega arith), tt);
  mean = often-means;
}

pub overrunning-fits : All PartsFit overrunning
overrunning-fits = All-cons PartsFit (whole_form rare_task) (sliced_often ∷ []) rare-fits (All-cons PartsFit sliced_often [] often-fits (All-nil PartsFit))

pub overrunning-in_time : IsNeverLate overrunning_plans
overrunning-in_time = tested_in_time overrunning_plans 30 (refl, refl, lit< tt, (refl, refl, lit< tt, tt)) (lit< tt) refl

overrunning-hyper : IsHyperperiod overrunning_plans 30
overrunning-hyper = two 30 6 6 (lit< tt) (lit< tt) (IsGcd-from_mod 30 6 6 (IsGcd-from_zero 6 0 refl))

pub overrunning-meets : RunsOfFormsMeet overrunning unit_costs overrunning_plans
overrunning-meets = sets_meet overrunning unit_costs overrunning_plans 30 overrunning-fits unit_in_range overrunning-plans overrunning-hyper (lit≤ tt) overrunning-in_time

-- as a whole, the first frame of the lower task has its mark behind its deadline
pub late-as_whole : ¬ (IsNeverLate late_plans)
late-as_whole never =
    let plan : Plan = record { period = 6; total = 5; points = record { prefix = 4; bound = 6; name = frame } ∷ [] } in
    let what : Point = record { prefix = 4; bound = 6; name = frame } in
    never (record { task = 1; frame = 0; point = 0 }) (plan, what, 8, responds late_plans 1 0 0 plan what 7 refl refl refl refl, lit< tt)
