use Rattle.std.proofs.Common.{◌≡◌, ◌<◌, ◌≤◌, List, length, get_or, map, ap, subst, arith}
use Rattle.tcel_core.specs.Plain.{block_of, plain_stmt}
use Rattle.tcel_core.proofs.Evaluation.{statements_next}
use Rattle.std.proofs.lemmas.List.{drop_all}
use Rattle.tcel_core.specs.declared.body.CoreStmt.{CoreStmt}
use Rattle.tcel_gen.specs.Sizes.{size}
use Rattle.tcel_gen.proofs.sizes.+sizes.Goals as goal

pub add_size-loop-stmt-preserved : goal.add_size-loop-stmt-preserved
add_size-loop-stmt-preserved t c =
    let list = c.args.body.now.list in
    let same = c.as_slice-stmt-items.ensures in
    let less = subst (λ l. c.loop-stmt.stmt-index < length l) same c.loop-stmt-test.true in
    let is = subst (λ l. c.stmt-item.result ≡ get_or l c.loop-stmt.stmt-index c.stmt-item.result) same c.stmt-item.is in
    let left = ap size (statements_next list c.loop-stmt.stmt-index c.stmt-item.result less is) in
    omega (arith, left, c.loop-stmt.invariant, c.in_ok-behind.ensures)

pub add_size-returns : goal.add_size-returns
add_size-returns t c =
    let past = subst (λ l. length l ≤ c.loop-stmt.stmt-index) c.as_slice-stmt-items.ensures c.loop-stmt-test.false in
    let none = ap (λ (l : List CoreStmt). size (block_of (map plain_stmt l))) (drop_all c.loop-stmt.stmt-index c.args.body.now.list past) in
    omega (arith, none, c.loop-stmt.invariant)
