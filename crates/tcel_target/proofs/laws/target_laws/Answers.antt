use Rattle.tcel_target.proofs.Told.{says_one, targets_in_range}
use Rattle.tcel_target.proofs.laws.target_laws.Goals as goal

pub returns-clause-told : goal.returns-clause-told
returns-clause-told c = λ bytes a b h g. says_one bytes a b h g

pub returns-clause-ranges : goal.returns-clause-ranges
returns-clause-ranges c = λ bytes costs target. targets_in_range bytes costs target
