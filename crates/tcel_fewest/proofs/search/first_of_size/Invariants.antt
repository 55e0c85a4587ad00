use Rattle.std.proofs.Common.{length}
use Rattle.tcel_fewest.specs.Faults.{AreFaults, IsReached}
use Rattle.tcel_fewest.proofs.search.first_of_size.Given as goal

abbrev pub invariant-loop-set : goal.invariant-loop-set
invariant-loop-set l =
    AreFaults l.fn.forms.whole l.fn.forms.sliced l.fn.forms.hyper (IsReached (length l.fn.forms.whole) l.fn.size l.set) l.faults
