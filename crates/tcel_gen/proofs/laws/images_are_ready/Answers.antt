use Rattle.tcel_gen.proofs.GeneratedImages.{images_ready}
use Rattle.tcel_gen.proofs.laws.images_are_ready.Goals as goal

pub returns : goal.returns
returns c = record { law = images_ready }
