use Rattle.std.proofs.Common.{◌++◌}
use Rattle.std.specs.List.{flat_map, range_with_len}
use Rattle.tcel_make.specs.Script.{value_text}
use Rattle.tcel_make.proofs.Ranges.{flat_next}
use Rattle.tcel_make.proofs.script.put_values.Goals as goal

pub loop-turn-preserved : goal.loop-turn-preserved
loop-turn-preserved c =
    let values = value_text c.args.task in
    let all = c.args.text.now.items ++ flat_map values (range_with_len 0 c.args.count) in
    flat_next values c.loop-turn.turn c.args.count c.loop-turn.text.items c.put_number.new.text.items all
    c.loop-turn-test.true c.in_ok-put_number.ensures c.loop-turn.invariant
