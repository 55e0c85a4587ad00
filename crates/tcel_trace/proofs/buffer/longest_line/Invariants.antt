use Rattle.std.proofs.Common.{◌≤◌, take, All}
use Rattle.tcel_image.specs.declared.image.ImageTask.{ImageTask}
use Rattle.tcel_trace.specs.Room.{line_bound}
use Rattle.tcel_trace.proofs.buffer.longest_line.Given as goal

abbrev pub invariant-loop-task : goal.invariant-loop-task
invariant-loop-task l = All (λ (task : ImageTask). line_bound task ≤ l.longest) (take l.task-index l.tasks)
