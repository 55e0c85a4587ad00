use Rattle.std.proofs.Common.{◌≡◌, ◌++◌, take}
use Rattle.std.specs.List.{flat_map}
use Rattle.std.specs.Int.{w32}
use Rattle.tcel_target.specs.Costs.{cost_of, instruction_keys}
use Rattle.tcel_image.specs.Spelling.{number}
use Rattle.tcel_image.proofs.writing.put_cycles.Given as goal

abbrev pub invariant-loop-key : goal.invariant-loop-key
invariant-loop-key l = l.out.items ≡ l.fn.out.items ++ flat_map (λ key. number w32 (cost_of l.table key)) (take l.key-index instruction_keys)
