use Rattle.tcel_demand.proofs.Soonest.{IsSoonestOf}
use Rattle.tcel_demand.proofs.late.soonest_bound.Given as goal

abbrev pub invariant-loop-point : goal.invariant-loop-point
invariant-loop-point l = IsSoonestOf l.points l.point-index l.soonest
