use Rattle.std.proofs.Common.{◌≡◌, length}
use Rattle.tcel_demand.proofs.Soonest.{AreSoonestOf}
use Rattle.tcel_demand.proofs.late.soonest_bounds.Given as goal

abbrev pub invariant-loop-task : goal.invariant-loop-task
invariant-loop-task l = record {
  size : length l.soonest ≡ 16;
  soonest : AreSoonestOf l.plans l.task l.soonest;
}
