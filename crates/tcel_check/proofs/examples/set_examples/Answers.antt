use Rattle.std.proofs.Common.{refl}
use Rattle.tcel_check.specs.Checked.{falling_below}
use Rattle.tcel_check.proofs.examples.set_examples.Goals as goal

pub returns-clause-set : goal.returns-clause-set
unfolding falling_below
returns-clause-set c = refl
