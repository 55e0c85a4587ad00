use Rattle.tcel_gen.proofs.GeneratedImages.{images_small}
use Rattle.tcel_gen.proofs.laws.images_are_small.Goals as goal

pub returns : goal.returns
returns c = record { law = images_small }
