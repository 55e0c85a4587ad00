use Rattle.std.proofs.Common.{◌≡◌, take}
use Rattle.tcel_tree.proofs.copies.+stmts.Given as goal

abbrev pub invariant-copy_block-loop-stmt : goal.invariant-copy_block-loop-stmt
invariant-copy_block-loop-stmt l = l.copied ≡ take l.stmt-index l.block
