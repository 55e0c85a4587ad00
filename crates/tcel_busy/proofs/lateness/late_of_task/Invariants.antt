use Rattle.std.proofs.Common.{◌≡◌, ◌+◌, ◌*◌, Some}
use Rattle.std.specs.Prelude.{slice_get, MatchOption}
use Rattle.tcel_demand.proofs.FirstLates.{IsFirstOf}
use Rattle.tcel_busy.proofs.StretchFacts.{IsWalked}
use Rattle.tcel_num.specs.Plan.{Plan}
use Rattle.tcel_busy.proofs.lateness.late_of_task.Given as goal

abbrev pub invariant-loop-stretch : goal.invariant-loop-stretch
invariant-loop-stretch l = record {
  plans : l.walk.plans ≡ l.plans;
  task : l.walk.task ≡ l.task;
  of_it : MatchOption l.first (Unit {0}) (λ late. late.task ≡ l.task);
  first : (plan : Plan) → slice_get l.plans l.task ≡ Some plan → IsFirstOf l.plans (IsWalked l.plans l.task (l.walk.frame * plan.total + l.walk.from)) l.first;
}

abbrev pub decreases-loop-stretch : goal.decreases-loop-stretch
decreases-loop-stretch l = l.walk.left
