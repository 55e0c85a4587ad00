use Rattle.tcel_code.proofs.WindowedExample.{windowed-bound, windowed-fits, windowed-in_time, windowed-meets, windowed-no_sooner}
use Rattle.tcel_code.proofs.examples.window_examples.Goals as goal

pub returns : goal.returns
returns c = record { fits = windowed-fits; in_time = windowed-in_time; meets = windowed-meets; bound = windowed-bound; no_sooner = windowed-no_sooner }
