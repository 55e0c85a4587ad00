use Rattle.std.proofs.Common.{◌≡◌, take, map, length}
use Rattle.tcel_image.specs.Machine.{start_task}
use Rattle.tcel_machine.specs.Task.{running_of}
use Rattle.tcel_machine.proofs.Sound.{FirstRun}
use Rattle.tcel_machine.proofs.start.start_all.Given as goal

abbrev pub invariant-loop-image_task : goal.invariant-loop-image_task
invariant-loop-image_task l =
    record {
      count : length l.tasks.items ≡ l.image_task-index;
      running : FirstRun l.image_tasks l.tasks.items;
      start : map running_of l.tasks.items ≡ map start_task (take l.image_task-index l.image_tasks);
    }
