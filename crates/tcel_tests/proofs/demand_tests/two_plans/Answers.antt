use Rattle.tcel_demand.proofs.Fits.{two_plans_fit, two_plans_point}
use Rattle.tcel_tests.proofs.demand_tests.two_plans.Goals as goal

pub returns-clause-fit : goal.returns-clause-fit
returns-clause-fit c = rw (c.in_ok-quick.ensures, c.in_ok-slow.ensures) (two_plans_fit c.args.bound c.requires.some c.requires.most)

pub returns-clause-point : goal.returns-clause-point
returns-clause-point c = rw (c.in_ok-quick.ensures, c.in_ok-slow.ensures) (two_plans_point c.args.bound)
