use Rattle.std.proofs.Common.{◌≡◌, ◌++◌, length, map, drop}
use Rattle.tcel_core.specs.Contents.{loops}
use Rattle.tcel_core.specs.Plain.{block_of, plain_body, plain_stmt}
use Rattle.tcel_code.specs.Code.{block_code}
use Rattle.tcel_code.specs.Counters.{behind}
use Rattle.tcel_gen.specs.Codable.{IsCodable}
use Rattle.tcel_gen.specs.Seen.{counters_at}
use Rattle.tcel_gen.proofs.code.+code.Given as goal

abbrev pub decreases-push_body : goal.decreases-push_body
decreases-push_body l = goal.size-push_body l

abbrev pub decreases-push_item : goal.decreases-push_item
decreases-push_item l = goal.size-push_item l

abbrev pub decreases-push_stmt : goal.decreases-push_stmt
decreases-push_stmt l = goal.size-push_stmt l

abbrev pub invariant-push_body-loop-stmt : goal.invariant-push_body-loop-stmt
invariant-push_body-loop-stmt l =
    let left = block_of (map plain_stmt (drop l.stmt-index l.body.list)) in
    let vars = l.cells.places in
    IsCodable left
    × (l.code ++ block_code left vars (length l.code) (counters_at l.cells l.in_loop l.next)
    ≡ l.initial.code ++ block_code (plain_body l.body) vars (length l.initial.code) (counters_at l.cells l.in_loop l.cell))
    × (behind (counters_at l.cells l.in_loop l.next) (loops left) ≡ behind (counters_at l.cells l.in_loop l.cell) (loops (plain_body l.body)))
