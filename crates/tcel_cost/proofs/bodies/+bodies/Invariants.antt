use Rattle.std.proofs.Common.{◌≡◌, map, drop}
use Rattle.tcel_core.specs.Plain.{block_of, plain_body, plain_stmt}
use Rattle.tcel_cost.specs.CostSteps.{block_cost}
use Rattle.tcel_cost.specs.Rooms.{HasRoom, block_most}
use Rattle.tcel_cost.proofs.bodies.+bodies.Given as goal

abbrev pub invariant-after_body-loop-stmt : goal.invariant-after_body-loop-stmt
invariant-after_body-loop-stmt l =
    let left = block_of (map plain_stmt (drop l.stmt-index l.body.list)) in
    HasRoom l.cost (block_most left l.vars l.costs) × (block_cost left l.vars l.costs l.cost ≡ block_cost (plain_body l.body) l.vars l.costs l.fn.before)
