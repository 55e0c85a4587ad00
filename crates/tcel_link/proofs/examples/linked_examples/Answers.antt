use Rattle.std.proofs.Common.{refl}
use Rattle.std.specs.Int.{int_wrap}
use Rattle.tcel_link.proofs.examples.linked_examples.Goals as goal

pub returns-clause-stays : goal.returns-clause-stays
unfolding int_wrap
returns-clause-stays c = refl
