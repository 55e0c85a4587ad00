use Rattle.std.proofs.Common.{take}
use Rattle.std.specs.Prelude.{flat_map}
use Rattle.tcel_tree.specs.Plain.{plain_task}
use Rattle.tcel_show.specs.Canonical.{task_tokens}
use Rattle.tcel_show.specs.Puts.{Puts}
use Rattle.tcel_show.proofs.writer.Writer.tasks.Given as goal

abbrev pub invariant-loop-task : goal.invariant-loop-task
invariant-loop-task l = Puts l.fn.self l.self (flat_map (λ t. task_tokens (plain_task t)) (take l.task-index l.tasks))
