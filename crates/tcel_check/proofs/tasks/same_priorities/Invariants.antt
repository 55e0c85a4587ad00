use Rattle.std.proofs.Common.{◌≡◌, map, take}
use Rattle.std.specs.List.{list_any}
use Rattle.std.specs.Ordering.{int_eq}
use Rattle.indexmap.specs.IndexSet.{contains}
use Rattle.tcel_tree.specs.Language.{Task}
use Rattle.tcel_tree.specs.Plain.{plain_task}
use Rattle.tcel_check.specs.Least.{Adds}
use Rattle.tcel_check.specs.Rows.{repeats, same_priority, priority_mark}
use Rattle.tcel_check.proofs.tasks.same_priorities.Given as goal

abbrev pub invariant-loop-task : goal.invariant-loop-task
invariant-loop-task l = record {
  seen : (t : Task) → contains int_eq l.priorities t.priority.value ≡ list_any (same_priority t) (map plain_task (take l.task-index l.tasks));
  same : Adds l.fn.least l.least (map priority_mark (repeats same_priority (map plain_task (take l.task-index l.tasks))));
}
