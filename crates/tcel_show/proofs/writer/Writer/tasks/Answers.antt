use Rattle.tcel_tree.specs.Plain.{plain_task}
use Rattle.tcel_show.specs.Canonical.{task_tokens}
use Rattle.tcel_show.proofs.Putting.{put_each}
use Rattle.tcel_show.proofs.writer.Writer.tasks.Goals as goal

pub loop-task-preserved : goal.loop-task-preserved
loop-task-preserved c =
    put_each (λ t. task_tokens (plain_task t)) c.args.tasks.now c.loop-task.task-index c.task-item.result c.loop-task-test.true c.task-item.is
    c.loop-task.invariant c.in_ok-task.ensures
