use Rattle.std.proofs.Common.{◌≡◌, ◌||◌, ℕ, ◌<◌, map, drop}
use Rattle.tcel_core.specs.Plain.{block_of, plain_body, plain_stmt}
use Rattle.tcel_core.specs.Rows.{stands_in}
use Rattle.tcel_core.specs.Uses.{block_writes}
use Rattle.tcel_core.proofs.uses.+writes.Given as goal

abbrev pub invariant-add_body_writes-loop-stmt : goal.invariant-add_body_writes-loop-stmt
invariant-add_body_writes-loop-stmt l =
    (v : ℕ) → v < 256 →
    (stands_in l.row v || block_writes (block_of (map plain_stmt (drop l.stmt-index l.body.list))) v)
    ≡ (stands_in l.initial.row v || block_writes (plain_body l.body) v)
