use Rattle.std.proofs.Common.{◌≡◌, ◌+◌, ◌*◌, ◌<◌, ℕ, Some, length, get_or}
use Rattle.std.specs.Prelude.{slice_get}
use Rattle.tcel_demand.proofs.WorstSoFar.{IsWorstOf}
use Rattle.tcel_demand.specs.declared.plan.Worst.{Worst}
use Rattle.tcel_num.specs.Plan.{Plan, Point}
use Rattle.tcel_busy.proofs.worst_case.worst_of_task.Given as goal

abbrev pub invariant-loop-one : goal.invariant-loop-one
invariant-loop-one l = record {
  size : length l.worst ≡ length l.initial.worst;
  none : (k : ℕ) (d : Worst) → k < l.one-index → get_or l.worst k d ≡ (let w : Worst = record { frame = 0; response = 0 } in w);
}

abbrev pub invariant-loop-stretch : goal.invariant-loop-stretch
invariant-loop-stretch l = record {
  size : length l.worst ≡ length l.initial.worst;
  plans : l.walk.plans ≡ l.plans;
  task : l.walk.task ≡ l.task;
  worst : (plan : Plan) (what : Point) (k : ℕ) (d : Worst) → slice_get l.plans l.task ≡ Some plan → slice_get plan.points k ≡ Some what → IsWorstOf l.plans l.task k plan what (l.walk.frame * plan.total + l.walk.from) (get_or l.worst k d);
}

abbrev pub decreases-loop-stretch : goal.decreases-loop-stretch
decreases-loop-stretch l = l.walk.left
