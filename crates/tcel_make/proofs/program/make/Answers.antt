use Rattle.std.proofs.Common.{◌-◌}
use Rattle.std.specs.List.{flat_map, range_with_len}
use Rattle.tcel_make.specs.Program.{program_text, task_text}
use Rattle.tcel_make.proofs.Lengths.{program_short}
use Rattle.tcel_make.proofs.Ranges.{flat_next, no_longer}
use Rattle.tcel_make.proofs.program.make.Goals as goal

pub loop-task-preserved : goal.loop-task-preserved
loop-task-preserved c =
    flat_next (task_text c.args.seed) c.loop-task.task c.args.tasks c.loop-task.text.items c.put_task.new.text.items (program_text c.args.seed c.args.tasks)
    c.loop-task-test.true c.in_ok-put_task.ensures c.loop-task.invariant

pub returns-clause-short : goal.returns-clause-short
returns-clause-short c =
    let all = program_text c.args.seed c.args.tasks in
    let rest = flat_map (task_text c.args.seed) (range_with_len c.loop-task.task (c.args.tasks - c.loop-task.task)) in
    no_longer c.loop-task.text.items rest all 65536 c.loop-task.invariant (program_short c.args.seed c.args.tasks c.requires.most)
