use Rattle.tcel_make.proofs.Pieces.{line_put}
use Rattle.tcel_make.proofs.script.put_line.Goals as goal

pub returns : goal.returns
returns c =
    line_put c.args.task c.args.text.now.items c.put_number.new.text.items c.put.new.text.items c.put_values.new.text.items c.put-2.new.text.items
    c.in_ok-put_number.ensures c.in_ok-put.ensures c.in_ok-put_values.ensures c.in_ok-put-2.ensures
