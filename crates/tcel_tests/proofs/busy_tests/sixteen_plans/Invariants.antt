use Rattle.std.proofs.Common.{◌≡◌, replicate}
use Rattle.tcel_tests.proofs.BusyPlans.{plan_within}
use Rattle.tcel_tests.proofs.busy_tests.sixteen_plans.Given as goal

abbrev pub invariant-loop : goal.invariant-loop
invariant-loop l = l.plans.items ≡ replicate l.counter (plan_within 16 1 16)
