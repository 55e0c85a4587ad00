use Rattle.std.proofs.Common.{◌≡◌, ◌+◌, map, drop}
use Rattle.tcel_core.specs.Contents.{loops}
use Rattle.tcel_core.specs.Plain.{block_of, plain_body, plain_stmt}
use Rattle.tcel_gen.proofs.firsts.+loops.Given as goal

abbrev pub invariant-add_loops-loop-stmt : goal.invariant-add_loops-loop-stmt
invariant-add_loops-loop-stmt l = l.behind + loops (block_of (map plain_stmt (drop l.stmt-index l.body.list))) ≡ l.before + loops (plain_body l.body)
