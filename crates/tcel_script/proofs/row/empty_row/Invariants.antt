use Rattle.std.proofs.Common.{◌≡◌, map, take, None}
use Rattle.tcel_script.proofs.row.empty_row.Given as goal

abbrev pub invariant-loop-input : goal.invariant-loop-input
invariant-loop-input l = l.row.items ≡ map (λ _. None) (take l._input-index l.inputs)
