use Rattle.std.proofs.Common.{◌<◌, map}
use Rattle.tcel_machine.specs.Task.{running_of}
use Rattle.tcel_machine.proofs.Turns.{NoneBefore}
use Rattle.tcel_machine.proofs.turn.turn_at.Given as goal

abbrev pub invariant-loop-number : goal.invariant-loop-number
invariant-loop-number l = (l.now < l.until) × NoneBefore l.image.tasks (map running_of l.tasks) l.number l.until
