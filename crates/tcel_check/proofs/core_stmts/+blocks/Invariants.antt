use Rattle.std.proofs.Common.{drop}
use Rattle.tcel_check.specs.Keys.{next_in, numbered_in}
use Rattle.tcel_check.proofs.RoomLemmas.{Building}
use Rattle.tcel_check.proofs.core_stmts.+blocks.Given as goal

abbrev pub invariant-core_block-loop-stmt : goal.invariant-core_block-loop-stmt
invariant-core_block-loop-stmt l = Building (numbered_in l.names) (next_in l.fn.next) l.stmts l.list (drop l.stmt-index l.stmts) (next_in l.next)
