use Rattle.tcel_cost.proofs.UniquePlans.{plan_is, plans_are}
use Rattle.tcel_cost.proofs.laws.plans_are_unique.Goals as goal

pub returns : goal.returns
returns c = record { one = plan_is; lists = plans_are }
