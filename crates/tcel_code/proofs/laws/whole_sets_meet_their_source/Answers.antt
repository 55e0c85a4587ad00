use Rattle.tcel_code.proofs.NeverLateSets.{whole_sets_meet}
use Rattle.tcel_code.proofs.laws.whole_sets_meet_their_source.Goals as goal

pub returns : goal.returns
returns c = record { headline = whole_sets_meet }
