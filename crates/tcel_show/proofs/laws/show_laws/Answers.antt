use Rattle.tcel_show.proofs.Reading.{reads_back, reads_back_shallow}
use Rattle.tcel_show.proofs.laws.show_laws.Goals as goal

pub returns : goal.returns
returns c = record { read = reads_back; accepted = reads_back_shallow }
