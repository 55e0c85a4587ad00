use Rattle.tcel_trace.specs.Room.{HasRoom}
use Rattle.tcel_tests.proofs.trace_tests.lines_of_entries.Given as goal

abbrev pub invariant-loop-time : goal.invariant-loop-time
invariant-loop-time g l = HasRoom l.buffer.room l.machine.image
