use Rattle.std.proofs.Common.{refl}
use Rattle.tcel_code.proofs.FormExamples.{sliced-fits, sliced-in_time, sliced-meets, sliced-trace}
use Rattle.tcel_code.proofs.examples.sliced_example.Goals as goal

pub returns : goal.returns
returns c = record { fits = sliced-fits; image = refl; in_time = sliced-in_time; meets = sliced-meets; trace = sliced-trace }
