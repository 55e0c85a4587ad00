use Rattle.std.proofs.Common.{take}
use Rattle.tcel_tree.specs.Plain.{plain_block}
use Rattle.tcel_check.specs.Known.{kind_in}
use Rattle.tcel_check.specs.Sights.{block_sights}
use Rattle.tcel_check.specs.Walks.{Saw}
use Rattle.tcel_check.proofs.walk.Walk.+blocks.Given as goal

abbrev pub invariant-block-loop-stmt : goal.invariant-block-loop-stmt
invariant-block-loop-stmt l =
    Saw (kind_in l.names) l.fn.self l.self (block_sights (plain_block (take l.stmt-index l.stmts)) (kind_in l.names) l.loops)
