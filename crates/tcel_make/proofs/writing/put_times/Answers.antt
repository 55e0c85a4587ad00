use Rattle.std.proofs.Common.{◌++◌}
use Rattle.std.specs.List.{repeat}
use Rattle.tcel_make.proofs.Ranges.{repeat_next}
use Rattle.tcel_make.proofs.writing.put_times.Goals as goal

pub loop-preserved : goal.loop-preserved
loop-preserved c =
    let all = c.args.text.now.items ++ repeat c.args.count c.args.line.now in
    repeat_next c.args.line.now c.loop.counter c.args.count c.loop.text.items c.put.new.text.items all c.loop-test.true c.in_ok-put.ensures c.loop.invariant
