use Rattle.std.proofs.Common.{◌≡◌, Some}
use Rattle.std.specs.Prelude.{slice_get}
use Rattle.tcel_num.specs.Plan.{Plan, Point}
use Rattle.tcel_num.specs.Schedule.{served}
use Rattle.tcel_demand.specs.Ticks.{Schedule}
use Rattle.tcel_demand.proofs.WorstSoFar.{IsWorstOf}
use Rattle.tcel_demand.proofs.worst.worst_plain.Given as goal

abbrev pub invariant-loop : goal.invariant-loop
invariant-loop l = record {
  schedule : l.schedule ≡ (let s : Schedule = record { plans = l.plans; ticks = l.counter } in s);
  worst : (plan : Plan) (what : Point) → slice_get l.plans l.task ≡ Some plan → slice_get plan.points l.point ≡ Some what → IsWorstOf l.plans l.task l.point plan what (served l.plans l.counter l.task) l.worst;
}
