use Rattle.std.proofs.Common.{◌≡◌, map, take, nat_eq}
use Rattle.std.specs.List.{list_any}
use Rattle.std.specs.Cmp.Lexicographic.{pointwise}
use Rattle.indexmap.specs.IndexSet.{contains}
use Rattle.tcel_tree.specs.Language.{Task}
use Rattle.tcel_tree.specs.Plain.{plain_task}
use Rattle.tcel_check.specs.Least.{Adds}
use Rattle.tcel_check.specs.Rows.{repeats, same_task, twice_task}
use Rattle.tcel_check.proofs.tasks.twice_tasks.Given as goal

abbrev pub invariant-loop-task : goal.invariant-loop-task
invariant-loop-task l = record {
  seen : (t : Task) → contains (pointwise nat_eq) l.names t.name ≡ list_any (same_task t) (map plain_task (take l.task-index l.tasks));
  twice : Adds l.fn.least l.least (map twice_task (repeats same_task (map plain_task (take l.task-index l.tasks))));
}
