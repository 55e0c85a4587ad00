use Rattle.std.proofs.Common.{◌<◌}
use Rattle.tcel_num.specs.Lateness.{Place, IsLate}
use Rattle.tcel_busy.proofs.lateness.late.Given as goal

abbrev pub invariant-loop-task : goal.invariant-loop-task
invariant-loop-task l = (place : Place) → place.task < l.task → IsLate l.plans place → ⊥
