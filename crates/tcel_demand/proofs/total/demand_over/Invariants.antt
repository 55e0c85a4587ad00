use Rattle.std.proofs.Common.{◌≡◌, take}
use Rattle.tcel_num.specs.Hyperperiod.{demand}
use Rattle.tcel_demand.proofs.total.demand_over.Given as goal

abbrev pub invariant-loop-plan : goal.invariant-loop-plan
invariant-loop-plan l = l.cycles ≡ demand (take l.plan-index l.plans) l.hyper
