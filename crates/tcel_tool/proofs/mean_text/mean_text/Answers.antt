use Rattle.std.proofs.Common.{List, length, get_or, ap, ◌∙◌, arith}
use Rattle.tcel_core.specs.declared.set.CoreTask.{CoreTask}
use Rattle.tcel_tool.proofs.MeanFrames.{sound_at}
use Rattle.tcel_tool.proofs.mean_text.mean_text.Goals as goal

pub put_task-requires : goal.put_task-requires
put_task-requires c =
    let tasks = c.args.set.now.tasks in
    let i = c.loop-number.number in
    let t = c.task-item.result in
    let same = c.as_slice-task-items.ensures in
    sound_at tasks i t (omega (arith, c.loop-number-test.true, ap (λ (ts : List CoreTask). length ts) same)) (c.task-item.is ∙ ap (λ (ts : List CoreTask). get_or ts i t) same) c.requires.sound.each
