use Rattle.tcel_show.proofs.Ending.{if_ok, put_program}
use Rattle.tcel_show.proofs.tasks.show.Goals as goal

pub returns : goal.returns
returns c =
    if_ok c.finish.result
    (λ text e.
    put_program c.args.program.now.tasks c.as_slice.result.now c.new-writer.ensures.text c.new-writer.ensures.depth c.new-writer.ensures.before
    c.as_slice.ensures c.in_ok-tasks.ensures e)
    c.finish.ensures
