use Rattle.std.proofs.Common.{◌≡◌, ◌+◌, ◌*◌, Some}
use Rattle.std.specs.Prelude.{slice_get}
use Rattle.tcel_demand.proofs.WorstSoFar.{IsWorstOf}
use Rattle.tcel_num.specs.Plan.{Plan, Point}
use Rattle.tcel_busy.proofs.worst_case.worst.Given as goal

abbrev pub invariant-loop-stretch : goal.invariant-loop-stretch
invariant-loop-stretch l = record {
  plans : l.walk.plans ≡ l.plans;
  task : l.walk.task ≡ l.task;
  worst : (plan : Plan) (what : Point) → slice_get l.plans l.task ≡ Some plan → slice_get plan.points l.point ≡ Some what → IsWorstOf l.plans l.task l.point plan what (l.walk.frame * plan.total + l.walk.from) l.worst;
}

abbrev pub decreases-loop-stretch : goal.decreases-loop-stretch
decreases-loop-stretch l = l.walk.left
