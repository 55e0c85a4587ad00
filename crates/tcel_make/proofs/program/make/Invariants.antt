use Rattle.std.proofs.Common.{◌≡◌, ◌++◌, ◌-◌}
use Rattle.std.specs.List.{flat_map, range_with_len}
use Rattle.tcel_make.specs.Program.{program_text, task_text}
use Rattle.tcel_make.proofs.program.make.Given as goal

abbrev pub invariant-loop-task : goal.invariant-loop-task
invariant-loop-task l = l.text.items ++ flat_map (task_text l.seed) (range_with_len l.task (l.tasks - l.task)) ≡ program_text l.seed l.tasks
