use Rattle.std.proofs.Common.{◌≡◌, ◌||◌, ℕ, ◌<◌, map, drop}
use Rattle.tcel_core.specs.Plain.{block_of, plain_body, plain_stmt}
use Rattle.tcel_core.specs.Rows.{stands_in}
use Rattle.tcel_core.specs.Uses.{block_reads, block_writes}
use Rattle.tcel_core.proofs.uses.+names.Given as goal

abbrev pub invariant-add_body_names-loop-stmt : goal.invariant-add_body_names-loop-stmt
invariant-add_body_names-loop-stmt l =
    (v : ℕ) → v < 256 →
    let left = block_of (map plain_stmt (drop l.stmt-index l.body.list)) in
    (stands_in l.row v || (block_writes left v || block_reads left v))
    ≡ (stands_in l.initial.row v || (block_writes (plain_body l.body) v || block_reads (plain_body l.body) v))
