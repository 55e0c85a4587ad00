use Rattle.tcel_core.proofs.MeaningLaws.{exec-joined}
use Rattle.tcel_core.proofs.laws.meaning_laws.Goals as goal

pub returns : goal.returns
returns c = exec-joined
