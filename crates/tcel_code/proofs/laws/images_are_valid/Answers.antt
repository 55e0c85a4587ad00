use Rattle.tcel_code.proofs.ValidImages.{images_valid, whole_compilable}
use Rattle.tcel_code.proofs.laws.images_are_valid.Goals as goal

pub returns : goal.returns
returns c = record { law = images_valid; whole = whole_compilable }
