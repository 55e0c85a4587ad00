use Rattle.tcel_cost.proofs.FormPlans.{late-plans, overrunning-plans, pair-plans, sliced-plan}
use Rattle.tcel_cost.proofs.WorkedPlans.{worked-plans}
use Rattle.tcel_cost.proofs.WindowedPlan.{windowed-plan}
use Rattle.tcel_cost.proofs.examples.plan_examples.Goals as goal

pub returns : goal.returns
returns c = record { windowed = windowed-plan; pair = pair-plans; sliced = sliced-plan; overrunning = overrunning-plans; worked = worked-plans; late = late-plans }
