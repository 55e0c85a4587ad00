use Rattle.std.proofs.Common.{◌≡◌, ◌++◌, ◌-◌}
use Rattle.std.specs.List.{flat_map, range_with_len}
use Rattle.tcel_make.specs.Script.{line_text, script_text}
use Rattle.tcel_make.proofs.script.make_script.Given as goal

abbrev pub invariant-loop-task : goal.invariant-loop-task
invariant-loop-task l = l.text.items ++ flat_map line_text (range_with_len l.task (l.tasks - l.task)) ≡ script_text l.tasks
