use Rattle.std.proofs.Common.{◌≡◌, ◌+◌, ◌++◌, map, drop}
use Rattle.tcel_core.specs.Contents.{item_loops, loops}
use Rattle.tcel_core.specs.Plain.{block_of, plain_body, plain_stmt}
use Rattle.tcel_gen.specs.Firsts.{fronts}
use Rattle.tcel_gen.proofs.firsts.+fronts.Given as goal

abbrev pub invariant-push_fronts-loop-stmt : goal.invariant-push_fronts-loop-stmt
invariant-push_fronts-loop-stmt l =
    let left = block_of (map plain_stmt (drop l.stmt-index l.body.list)) in
    (l.list ++ fronts l.behind (item_loops left) ≡ l.initial.list ++ fronts l.before (item_loops (plain_body l.body)))
    × (l.behind + loops left ≡ l.before + loops (plain_body l.body))
