use Rattle.std.proofs.Common.{◌≡◌, ◌++◌, ◌-◌}
use Rattle.std.specs.List.{flat_map, range_with_len}
use Rattle.tcel_make.specs.Script.{value_text}
use Rattle.tcel_make.proofs.script.put_values.Given as goal

abbrev pub invariant-loop-turn : goal.invariant-loop-turn
invariant-loop-turn l =
    l.text.items ++ flat_map (value_text l.task) (range_with_len l.turn (l.count - l.turn))
    ≡ l.fn.text.items ++ flat_map (value_text l.task) (range_with_len 0 l.count)
