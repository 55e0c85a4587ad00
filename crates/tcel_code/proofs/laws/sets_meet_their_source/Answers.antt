use Rattle.tcel_code.proofs.NeverLateSets.{sets_meet}
use Rattle.tcel_code.proofs.laws.sets_meet_their_source.Goals as goal

pub returns : goal.returns
returns c = record { headline = sets_meet }
