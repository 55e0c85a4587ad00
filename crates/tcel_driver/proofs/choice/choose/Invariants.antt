use Rattle.std.proofs.Common.{ℕ, ◌-◌, ◌<◌, length}
use Rattle.tcel_driver.specs.Steps.{HaveTime, joint}
use Rattle.tcel_driver.proofs.Joint.{Stands}
use Rattle.tcel_driver.proofs.choice.choose.Given as goal

abbrev pub invariant-loop-fault : goal.invariant-loop-fault
invariant-loop-fault l = record {
  stands : Stands l.fn.forms.whole l.fn.forms.sliced l.left l.plans;
  none : (number : ℕ) → number < length l.fn.forms.whole - length l.left
      → HaveTime (joint (length l.fn.forms.whole - number) l.fn.forms.whole l.fn.forms.sliced) l.hyper → ⊥;
}

abbrev pub decreases-loop-fault : goal.decreases-loop-fault
decreases-loop-fault l = length l.left
