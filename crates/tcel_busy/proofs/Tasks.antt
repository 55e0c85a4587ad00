-- A task of a set of plans as a task below higher ones.
use Rattle.std.proofs.Common.{◌≡◌, ℕ, suc, ◌*◌, ◌≤◌, List, [], ◌∷◌, All, take, arith, Some}
use Rattle.std.specs.Prelude.{slice_get}
use Rattle.std.proofs.lemmas.List.Elements.{All-head, All-tail}
use Rattle.std.proofs.lemmas.List.Sums.{sum_by-take-le}
use Rattle.std.proofs.lemmas.Option.{slice_get_within}
use Rattle.tcel_busy.proofs.BusyPeriod.{IsTask, IsEnd, end_within}
use Rattle.tcel_demand.specs.Sound.{IsSoundPlan, AreSound, Fit}
use Rattle.tcel_demand.specs.Workload.{releases, asked}
use Rattle.tcel_demand.proofs.Fronts.{positive_front, done_next, asked_next}
use Rattle.tcel_demand.proofs.Served.{served_step}
use Rattle.tcel_demand.proofs.ServedAtLast.{repeat}
use Rattle.tcel_demand.proofs.Standings.{sound_at}
use Rattle.tcel_demand.proofs.WholeHyperperiods.{asked_whole}
use Rattle.tcel_demand.proofs.Workloads.{Positive, done, level, asked_window}
use Rattle.tcel_num.specs.Plan.{Plan}
use Rattle.tcel_num.specs.Schedule.{served}

positive_each : (plans : List Plan) → All IsSoundPlan plans → Positive plans
positive_each [] sound = tt
positive_each (p ∷ plans) sound = ((All-head IsSoundPlan p plans sound).period_some, positive_each plans (All-tail IsSoundPlan p plans sound))

abbrev pub higher : List Plan → ℕ → ℕ → ℕ
higher plans task time = asked (take task plans) time

abbrev pub all : List Plan → ℕ → ℕ → ℕ
all plans task time = asked (take (suc task) plans) time

abbrev pub own : List Plan → ℕ → ℕ → ℕ
own plans task time = served plans time task

pub is_task : (plans : List Plan) (task : ℕ) (plan : Plan) → AreSound plans → slice_get plans task ≡ Some plan →
    IsTask (higher plans task) (λ t. done (take task plans) t) (all plans task) (λ t. done (take (suc task) plans) t) (own plans task) plan.period plan.total
is_task plans task plan sound e =
    let positive = positive_each plans sound.each in
    record {
      above = level (take task plans) (positive_front task plans positive);
      level = level (take (suc task) plans) (positive_front (suc task) plans positive);
      asks = λ t. asked_next plans task plan t e;
      shares = λ t. done_next plans task t (slice_get_within plans task plan e);
      steps = λ t. (served_step plans t task).0;
      window = asked_window (take task plans) (positive_front task plans positive);
      period_some = (sound_at plans task plan sound e).period_some;
      total_some = (sound_at plans task plan sound e).total_some;
    }

-- where the demand fits, the busy period ends within the hyperperiod
pub end_of : (plans : List Plan) (hyper task : ℕ) → Fit plans hyper → (end : ℕ) × IsEnd (all plans task) end × (end ≤ hyper)
end_of plans hyper task fit =
    let some = fit.within.period.positive in
    let repeats = repeat plans hyper some fit.within.period.common in
    let whole = asked_whole plans hyper repeats in
    let part = sum_by-take-le (λ (p : Plan). p.total * releases p.period hyper) plans (suc task) in
    let room = fit.room in
    end_within (all plans task) hyper some (omega arith)
