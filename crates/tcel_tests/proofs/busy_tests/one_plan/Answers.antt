use Rattle.tcel_tests.proofs.BusyPlans.{three_points_fit}
use Rattle.tcel_tests.proofs.busy_tests.one_plan.Goals as goal

pub returns-clause-fit : goal.returns-clause-fit
returns-clause-fit c = rw (c.in_ok-plan.ensures, c.point.ensures, c.point-2.ensures, c.point-3.ensures) (10, three_points_fit)
