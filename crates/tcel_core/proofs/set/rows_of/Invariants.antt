use Rattle.std.proofs.Common.{◌≡◌, map, take}
use Rattle.tcel_core.specs.Plain.{plain_task}
use Rattle.tcel_core.specs.Ports.{port_row}
use Rattle.tcel_core.proofs.set.rows_of.Given as goal

abbrev pub invariant-loop-task : goal.invariant-loop-task
invariant-loop-task l = l.rows.items ≡ map port_row (map plain_task (take l.task-index l.tasks))
