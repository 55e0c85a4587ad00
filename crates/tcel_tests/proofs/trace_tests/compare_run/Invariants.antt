use Rattle.tcel_trace.specs.Room.{HasRoom}
use Rattle.tcel_tests.proofs.trace_tests.compare_run.Given as goal

abbrev pub invariant-loop : goal.invariant-loop
invariant-loop g l = HasRoom l.buffer.room l.machine.image
