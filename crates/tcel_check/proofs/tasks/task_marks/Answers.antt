use Rattle.tcel_tree.specs.Plain.{plain_task}
use Rattle.tcel_check.specs.Known.{kind_in}
use Rattle.tcel_check.proofs.TaskMarks.{saw_task, task_adds}
use Rattle.tcel_check.proofs.tasks.task_marks.Goals as goal

pub returns-clause-marks : goal.returns-clause-marks
returns-clause-marks c =
    let t = plain_task c.args.task.now in
    let kind = kind_in c.in_ok-names.names in
    let known = rw c.as_slice-decls.ensures at c.in_ok-names.ensures.known in
    let saw = saw_task t kind known (c.head.ensures kind) (rw c.as_slice.ensures at c.block.ensures) in
    task_adds t kind known (rw c.as_slice-decls.ensures at c.many_names.ensures) (rw c.as_slice-decls.ensures at c.many_words.ensures)
    (rw c.as_slice-decls.ensures at c.in_ok-names.ensures.twice) (rw c.new-walk.ensures at saw)

pub returns-clause-spelled : goal.returns-clause-spelled
returns-clause-spelled c =
    let t = plain_task c.args.task.now in
    let kind = kind_in c.in_ok-names.names in
    let known = rw c.as_slice-decls.ensures at c.in_ok-names.ensures.known in
    let saw = saw_task t kind known (c.head.ensures kind) (rw c.as_slice.ensures at c.block.ensures) in
    record { name = c.bytes-bytes.ensures.valid; decls = rw c.as_slice-decls.ensures at c.in_ok-names.ensures.spelled; sights = saw.spelled }
