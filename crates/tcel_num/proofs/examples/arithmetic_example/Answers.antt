use Rattle.std.proofs.Common.{refl}
use Rattle.std.specs.Int.{int_wrap}
use Rattle.tcel_num.proofs.examples.arithmetic_example.Goals as goal

pub returns-clause-unary : goal.returns-clause-unary
unfolding int_wrap
returns-clause-unary c = refl

pub returns-clause-binary : goal.returns-clause-binary
unfolding int_wrap
returns-clause-binary c = refl
