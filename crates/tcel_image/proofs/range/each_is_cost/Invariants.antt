use Rattle.std.proofs.Common.{take, All}
use Rattle.tcel_target.specs.Costs.{cost_of, IsCost}
use Rattle.tcel_image.proofs.range.each_is_cost.Given as goal

abbrev pub invariant-loop-key : goal.invariant-loop-key
invariant-loop-key l = All (λ key. IsCost key (cost_of l.costs key)) (take l.key-index l.keys)
