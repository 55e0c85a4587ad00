use Rattle.std.proofs.Common.{arith}
use Rattle.std.proofs.lemmas.Nat.Gcd.{IsGcd-from_zero, IsGcd-from_mod}
use Rattle.tcel_num.proofs.multiples.gcd.Goals as goal

pub loop-second-preserved : goal.loop-second-preserved
loop-second-preserved c g h = c.loop-second.invariant g (IsGcd-from_mod _ _ g h)

pub returns : goal.returns
returns c = c.loop-second.invariant _ (IsGcd-from_zero _ _ (omega arith))
