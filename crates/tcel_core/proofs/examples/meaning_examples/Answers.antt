use Rattle.std.proofs.Common.{refl}
use Rattle.std.specs.Int.{int_wrap}
use Rattle.tcel_core.proofs.examples.meaning_examples.Goals as goal

pub returns : goal.returns
unfolding int_wrap
returns c = record {
  counter = refl;
  edges = refl;
  for_turns = refl;
  while_holds = refl;
  while_limit = refl;
  while_not = refl;
  arrays = refl;
}
