use Rattle.std.proofs.Common.{◌≡◌, ◌++◌, drop, map}
use Rattle.tcel_core.specs.Plain.{plain_task}
use Rattle.tcel_tool.specs.MeanText.{tasks_text}
use Rattle.tcel_tool.proofs.mean_text.mean_text.Given as goal

abbrev pub invariant-loop-number : goal.invariant-loop-number
invariant-loop-number l =
    l.text.items ++ tasks_text l.frames l.number (map plain_task (drop l.number l.set.tasks)) l.script ≡ tasks_text l.frames 0 (map plain_task l.set.tasks) l.script
