use Rattle.std.proofs.Common.{◌≡◌, ◌+◌, map, drop}
use Rattle.tcel_core.specs.Plain.{block_of, plain_body, plain_stmt}
use Rattle.tcel_gen.specs.Sizes.{size}
use Rattle.tcel_gen.proofs.sizes.+sizes.Given as goal

abbrev pub invariant-add_size-loop-stmt : goal.invariant-add_size-loop-stmt
invariant-add_size-loop-stmt l = l.behind + size (block_of (map plain_stmt (drop l.stmt-index l.body.list))) ≡ l.before + size (plain_body l.body)
