use Rattle.tcel_code.proofs.SliceForms.{slices_mean}
use Rattle.tcel_code.proofs.laws.slices_mean_their_body.Goals as goal

pub returns : goal.returns
returns c = record { law = slices_mean }
