use Rattle.std.proofs.Common.{◌≡◌, ◌+◌, ◌++◌, ◌<◌, ◌≤◌, List, length, get_or, map, drop, sym, ap, ◌∙◌, subst, arith}
use Rattle.std.proofs.lemmas.List.{append-nil, drop_all}
use Rattle.tcel_core.specs.Contents.{item_loops, loops, stmt_item_loops}
use Rattle.tcel_core.specs.Plain.{block_of, plain_body, plain_stmt}
use Rattle.tcel_core.specs.declared.body.CoreStmt as core_stmt
use Rattle.tcel_core.specs.declared.body.CoreStmt.{CoreStmt}
use Rattle.tcel_core.proofs.Evaluation.{statements_next}
use Rattle.tcel_core.proofs.PlainLaws.{plain_stmt-choice}
use Rattle.tcel_gen.specs.Firsts.{fronts}
use Rattle.tcel_gen.proofs.FrontTables.{all_together, fronts_both, fronts_step}
use Rattle.tcel_gen.proofs.firsts.+fronts.Goals as goal

pub push_fronts-loop-stmt-preserved : goal.push_fronts-loop-stmt-preserved
push_fronts-loop-stmt-preserved t c =
    let list = c.args.body.now.list in
    let same = c.as_slice-stmt-items.ensures in
    let less = subst (λ l. c.loop-stmt.stmt-index < length l) same c.loop-stmt-test.true in
    let is = subst (λ l. c.stmt-item.result ≡ get_or l c.loop-stmt.stmt-index c.stmt-item.result) same c.stmt-item.is in
    let left = statements_next list c.loop-stmt.stmt-index c.stmt-item.result less is in
    let rest = block_of (map plain_stmt (drop (c.loop-stmt.stmt-index + 1) list)) in
    let now = subst (λ b. c.loop-stmt.list ++ fronts c.loop-stmt.behind (item_loops b) ≡ c.args.list.now ++ fronts c.args.before (item_loops (plain_body c.args.body.now))) left c.loop-stmt.invariant.0 in (
      fronts_step c.loop-stmt.list c.push_stmt_fronts.new.list (plain_stmt c.stmt-item.result) rest c.loop-stmt.behind c.in_ok-behind.behind c.in_ok-behind.ensures.fronts c.in_ok-behind.ensures.behind ∙ now,
      omega (arith, ap loops left, c.loop-stmt.invariant.1, c.in_ok-behind.ensures.behind),
    )

pub push_fronts-returns-clause-fronts : goal.push_fronts-returns-clause-fronts
push_fronts-returns-clause-fronts t c =
    let past = subst (λ l. length l ≤ c.loop-stmt.stmt-index) c.as_slice-stmt-items.ensures c.loop-stmt-test.false in
    let none = ap (λ (l : List CoreStmt). c.loop-stmt.list ++ fronts c.loop-stmt.behind (item_loops (block_of (map plain_stmt l)))) (drop_all c.loop-stmt.stmt-index c.args.body.now.list past) in
    sym (append-nil c.loop-stmt.list) ∙ sym none ∙ c.loop-stmt.invariant.0

pub push_fronts-returns-clause-behind : goal.push_fronts-returns-clause-behind
push_fronts-returns-clause-behind t c =
    let past = subst (λ l. length l ≤ c.loop-stmt.stmt-index) c.as_slice-stmt-items.ensures c.loop-stmt-test.false in
    let none = ap (λ (l : List CoreStmt). loops (block_of (map plain_stmt l))) (drop_all c.loop-stmt.stmt-index c.args.body.now.list past) in
    omega (arith, none, c.loop-stmt.invariant.1)

pub push_stmt_fronts-returns-in_ok-behind-in-If-clause-fronts : goal.push_stmt_fronts-returns-in_ok-behind-in-If-clause-fronts
unfolding core_stmt.roll-CoreStmt denote.Hole.Carrier.roll
push_stmt_fronts-returns-in_ok-behind-in-If-clause-fronts t c =
    let old = c.args.list.now in
    let new = c.push_fronts-in-If.new.list in
    let held = plain_body c.in-If.yes in
    let first = c.in_ok-between-in-If.ensures in
    subst (λ s. new ≡ old ++ fronts c.args.before (stmt_item_loops (plain_stmt s))) (sym c.in-If.is)
    (subst (λ s. new ≡ old ++ fronts c.args.before (stmt_item_loops s)) (sym (plain_stmt-choice c.in-If.id c.in-If.test c.in-If.yes c.in-If.no))
    (fronts_both old c.push_fronts.new.list new (item_loops held) (item_loops (plain_body c.in-If.no)) c.args.before c.in_ok-between-in-If.between (loops held)
    first.fronts first.behind (all_together held) c.in_ok-behind-in-If.ensures.fronts))
