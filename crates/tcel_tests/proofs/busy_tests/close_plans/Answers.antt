use Rattle.tcel_tests.proofs.BusyPlans.{close_fit}
use Rattle.tcel_tests.proofs.busy_tests.close_plans.Goals as goal

pub returns-clause-fit : goal.returns-clause-fit
returns-clause-fit c = rw (c.in_ok-quick.ensures, c.in_ok-slow.ensures, c.point.ensures, c.point-2.ensures) (12, close_fit c.args.bound c.requires.some c.requires.most)
