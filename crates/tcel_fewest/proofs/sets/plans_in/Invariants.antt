use Rattle.std.proofs.Common.{◌≡◌, ◌++◌, drop}
use Rattle.tcel_fewest.specs.Sets.{plans_of}
use Rattle.tcel_fewest.proofs.sets.plans_in.Given as goal

abbrev pub invariant-loop-task : goal.invariant-loop-task
invariant-loop-task l =
    l.plans ++ plans_of l.fn.set (drop l.task l.fn.forms.whole) (drop l.task l.fn.forms.sliced)
    ≡ plans_of l.fn.set l.fn.forms.whole l.fn.forms.sliced
