use Rattle.std.proofs.Common.{refl}
use Rattle.std.specs.Fmt.{digits}
use Rattle.std.specs.Int.{int_wrap}
use Rattle.tcel_judge.proofs.examples.line_examples.Goals as goal

pub returns-clause-right : goal.returns-clause-right
unfolding digits int_wrap
returns-clause-right c = refl

pub returns-clause-state : goal.returns-clause-state
unfolding digits int_wrap
returns-clause-state c = refl
