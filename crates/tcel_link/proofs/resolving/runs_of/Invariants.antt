use Rattle.std.proofs.Common.{◌≡◌, ◌++◌, map, drop}
use Rattle.tcel_core.specs.Plain.{plain_task}
use Rattle.tcel_link.specs.Runs.{start_runs}
use Rattle.tcel_link.proofs.resolving.runs_of.Given as goal

abbrev pub invariant-loop-number : goal.invariant-loop-number
invariant-loop-number l = l.runs.items ++ start_runs l.number (map plain_task (drop l.number l.tasks)) l.script ≡ start_runs 0 (map plain_task l.tasks) l.script
