use Rattle.std.proofs.Common.{ℕ}
use Rattle.std.specs.Int.{IsGcd}
use Rattle.tcel_num.proofs.multiples.gcd.Given as goal

abbrev pub invariant-loop-second : goal.invariant-loop-second
invariant-loop-second l = (g : ℕ) → IsGcd l.first l.second g → IsGcd l.fn.a l.fn.b g

abbrev pub decreases-loop-second : goal.decreases-loop-second
decreases-loop-second l = l.second
