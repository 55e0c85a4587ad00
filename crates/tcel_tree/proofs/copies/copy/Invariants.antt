use Rattle.std.proofs.Common.{◌≡◌, take}
use Rattle.tcel_tree.proofs.copies.copy.Given as goal

abbrev pub invariant-loop-task : goal.invariant-loop-task
invariant-loop-task l = l.tasks ≡ take l.task-index l.program.tasks
