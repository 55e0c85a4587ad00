use Rattle.std.proofs.Common.{map, take}
use Rattle.std.specs.Prelude.{flat_map}
use Rattle.std.specs.List.{AllByRecursion}
use Rattle.tcel_tree.specs.Plain.{plain_task}
use Rattle.tcel_check.specs.Least.{Adds}
use Rattle.tcel_check.specs.Rows.{task_marks}
use Rattle.tcel_check.specs.Spelled.{IsSpelledTask}
use Rattle.tcel_check.proofs.tasks.each_task.Given as goal

abbrev pub invariant-loop-task : goal.invariant-loop-task
invariant-loop-task l = record {
  marks : Adds l.fn.least l.least (flat_map task_marks (map plain_task (take l.task-index l.tasks)));
  spelled : AllByRecursion IsSpelledTask (map plain_task (take l.task-index l.tasks));
}
