use Rattle.tcel_make.proofs.Pieces.{task_put}
use Rattle.tcel_make.proofs.program.put_task.Goals as goal

pub returns : goal.returns
returns c =
    task_put c.args.seed c.args.task c.period.result c.turns.result c.args.text.now.items
    c.put_number.new.text.items c.put_number-2.new.text.items c.put_number-3.new.text.items c.put_number-4.new.text.items c.put_number-5.new.text.items
    c.put_number-6.new.text.items c.put.new.text.items c.put_times.new.text.items c.put-2.new.text.items c.period.ensures c.turns.ensures
    c.in_ok-put_number.ensures c.in_ok-put_number-2.ensures c.in_ok-put_number-3.ensures c.in_ok-put_number-4.ensures c.in_ok-put_number-5.ensures
    c.in_ok-put_number-6.ensures c.in_ok-put.ensures c.in_ok-put_times.ensures c.in_ok-put-2.ensures
