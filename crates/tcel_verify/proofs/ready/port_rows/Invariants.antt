use Rattle.std.proofs.Common.{◌≡◌, map, take}
use Rattle.tcel_verify.specs.Ports.{port_row}
use Rattle.tcel_verify.proofs.ready.port_rows.Given as goal

abbrev pub invariant-loop-task : goal.invariant-loop-task
invariant-loop-task l = l.rows.items ≡ map port_row (take l.task-index l.tasks)
