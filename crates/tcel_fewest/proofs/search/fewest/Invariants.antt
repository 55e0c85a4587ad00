use Rattle.std.proofs.Common.{length}
use Rattle.tcel_fewest.specs.Faults.{AreFaults, IsReached}
use Rattle.tcel_fewest.proofs.search.fewest.Given as goal

abbrev pub invariant-loop-size : goal.invariant-loop-size
invariant-loop-size l =
    AreFaults l.fn.forms.whole l.fn.forms.sliced l.fn.forms.hyper (IsReached (length l.fn.forms.whole) l.size 0) l.faults
