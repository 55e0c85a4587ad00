use Rattle.std.proofs.Common.{◌≡◌, ◌≤◌}
use Rattle.tcel_fewest.specs.Sets.{size_of}
use Rattle.tcel_fewest.proofs.sets.size_of.Given as goal

abbrev pub invariant-loop-below : goal.invariant-loop-below
invariant-loop-below l = record { is : l.size ≡ size_of l.below l.fn.set; most : l.size ≤ l.below }
