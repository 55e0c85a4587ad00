use Rattle.std.proofs.Common.{refl}
use Rattle.tcel_fewest.specs.Sets.{size_of}
use Rattle.tcel_fewest.proofs.examples.set_examples.Goals as goal

pub returns : goal.returns
unfolding size_of
returns c = record { highest = refl; middle = refl; lowest = refl; two = refl; none = refl; alone = refl; all = refl }
