use Rattle.std.proofs.Common.{◌≤◌, length, map, subst, arith}
use Rattle.std.proofs.lemmas.List.{at_drop_all}
use Rattle.tcel_core.specs.Contents.{loops}
use Rattle.tcel_core.specs.Plain.{block_of, plain_stmt}
use Rattle.tcel_core.specs.declared.body.CoreStmt.{CoreStmt}
use Rattle.std.proofs.Common.{List}
use Rattle.tcel_rename.proofs.two_parts.+loops.Goals as goal

pub loops_in_body-returns : goal.loops_in_body-returns
loops_in_body-returns t c =
    let past = subst (λ l. length l ≤ c.loop-stmt.stmt-index) c.as_slice-stmt-items.ensures c.loop-stmt-test.false in
    let none = at_drop_all (λ (l : List CoreStmt). loops (block_of (map plain_stmt l))) c.args.body.now.list c.loop-stmt.stmt-index past in
    let inv = c.loop-stmt.invariant in
    omega arith
