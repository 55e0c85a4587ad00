use Rattle.std.proofs.Common.{refl}
use Rattle.tcel_code.proofs.FormExamples.{pair-fits, pair-in_time, pair-meets}
use Rattle.tcel_code.proofs.examples.pair_example.Goals as goal

pub returns : goal.returns
returns c = record { fits = pair-fits; in_time = pair-in_time; meets = pair-meets; trace = refl }
