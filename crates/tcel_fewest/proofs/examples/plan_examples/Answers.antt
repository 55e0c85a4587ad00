use Rattle.std.proofs.Common.{refl}
use Rattle.tcel_fewest.specs.Sets.{plans_of}
use Rattle.tcel_fewest.proofs.examples.plan_examples.Goals as goal

pub returns : goal.returns
unfolding plans_of
returns c = record { first = refl; others = refl }
