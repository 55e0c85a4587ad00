use Rattle.tcel_core.proofs.PlainLaws.{plain_body-list}
use Rattle.tcel_core.proofs.laws.plain_laws.Goals as goal

pub returns-clause-body : goal.returns-clause-body
returns-clause-body c = plain_body-list
