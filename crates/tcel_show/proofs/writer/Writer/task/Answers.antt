use Rattle.tcel_show.proofs.Putting.{if_put, put_task}
use Rattle.tcel_show.proofs.writer.Writer.task.Goals as goal

pub returns : goal.returns
returns c =
    if_put c.sign-2.result
    (λ last.
    put_task c.in_ok-word.ensures c.in_ok-name.ensures c.in_ok-word-2.ensures c.in_ok-placed.ensures c.in_ok-sign.ensures
    (rw c.as_slice.ensures at c.in_ok-decls.ensures) c.in_ok-every.ensures last)
    c.sign-2.ensures
