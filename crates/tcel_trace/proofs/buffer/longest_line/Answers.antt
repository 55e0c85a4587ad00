use Rattle.std.proofs.Common.{take_all, arith}
use Rattle.tcel_trace.proofs.Lengths.{bounds_more}
use Rattle.tcel_trace.proofs.buffer.longest_line.Goals as goal

pub loop-task-preserved : goal.loop-task-preserved
loop-task-preserved c =
    bounds_more c.args.tasks.now c.loop-task.task-index c.loop-task.longest c.max-longest.result c.task-item.result c.loop-task-test.true c.task-item.is
    (omega (arith, c.max-longest.ensures)) (omega (arith, c.max-longest.ensures, c.line_bound.ensures)) c.loop-task.invariant

pub returns : goal.returns
returns c = rw (take_all c.loop-task.task-index c.args.tasks.now c.loop-task-test.false) at c.loop-task.invariant
