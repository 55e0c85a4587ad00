use Rattle.std.proofs.Common.{◌-◌}
use Rattle.std.specs.List.{flat_map, range_with_len}
use Rattle.tcel_make.specs.Script.{line_text, script_text}
use Rattle.tcel_make.proofs.Lengths.{script_short}
use Rattle.tcel_make.proofs.Ranges.{flat_next, no_longer}
use Rattle.tcel_make.proofs.script.make_script.Goals as goal

pub loop-task-preserved : goal.loop-task-preserved
loop-task-preserved c =
    flat_next line_text c.loop-task.task c.args.tasks c.loop-task.text.items c.put_line.new.text.items (script_text c.args.tasks)
    c.loop-task-test.true c.in_ok-put_line.ensures c.loop-task.invariant

pub returns-clause-short : goal.returns-clause-short
returns-clause-short c =
    let rest = flat_map line_text (range_with_len c.loop-task.task (c.args.tasks - c.loop-task.task)) in
    no_longer c.loop-task.text.items rest (script_text c.args.tasks) 65536 c.loop-task.invariant (script_short c.args.tasks c.requires.most)
