use Rattle.std.proofs.Common.{◌≡◌, ◌++◌, map, drop}
use Rattle.tcel_core.specs.Plain.{block_of, plain_body, plain_stmt}
use Rattle.tcel_cost.specs.CostSteps.{block_cost}
use Rattle.tcel_cost.specs.PointSteps.{block_points}
use Rattle.tcel_cost.specs.Rooms.{HasRoom, block_most}
use Rattle.tcel_cost.proofs.points.+points.Given as goal

abbrev pub invariant-add_points-loop-stmt : goal.invariant-add_points-loop-stmt
invariant-add_points-loop-stmt l =
    let left = block_of (map plain_stmt (drop l.stmt-index l.body.list)) in
    HasRoom l.cost (block_most left l.vars l.costs)
    × (block_cost left l.vars l.costs l.cost ≡ block_cost (plain_body l.body) l.vars l.costs l.fn.before)
    × (l.points ++ block_points left l.vars l.costs l.cost.total ≡ l.fn.points ++ block_points (plain_body l.body) l.vars l.costs l.fn.before.total)

abbrev pub decreases-add_points : goal.decreases-add_points
decreases-add_points l = goal.size-add_points l

abbrev pub decreases-add_stmt_points : goal.decreases-add_stmt_points
decreases-add_stmt_points l = goal.size-add_stmt_points l
