use Rattle.std.proofs.Common.{refl}
use Rattle.tcel_code.proofs.FormExamples.{late-as_whole, overrunning-fits, overrunning-in_time, overrunning-meets}
use Rattle.tcel_code.proofs.examples.overrunning_example.Goals as goal

pub returns : goal.returns
returns c = record { fits = overrunning-fits; late = late-as_whole; in_time = overrunning-in_time; meets = overrunning-meets; trace = refl; ran_at_3 = refl; ran_at_8 = refl; ran_at_11 = refl; served_at_11 = refl }
