use Rattle.tcel_code.proofs.SpelledImages.{images_in_range}
use Rattle.tcel_code.proofs.laws.images_are_in_range.Goals as goal

pub returns : goal.returns
returns c = record { law = images_in_range }
