use Rattle.tcel_tests.proofs.BusyPlans.{long_fit}
use Rattle.tcel_tests.proofs.busy_tests.long_plans.Goals as goal

pub returns-clause-fit : goal.returns-clause-fit
returns-clause-fit c = rw (c.in_ok-first.ensures, c.in_ok-second.ensures, c.point.ensures, c.point-2.ensures) (249999500000, long_fit)
