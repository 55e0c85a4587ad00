use Rattle.std.proofs.Common.{rules, ◌≡◌, ◌+◌, ◌++◌, ◌<◌, ◌∙◌, length, get_or, map, drop, sym, ap, subst, arith}
use Rattle.tcel_core.specs.Contents.{hold_of}
use Rattle.tcel_core.specs.Language.{Window}
use Rattle.tcel_core.specs.Plain.{block_of, plain_body, plain_expr, plain_stmt}
use Rattle.tcel_core.specs.declared.body.CoreStmt as core_stmt
use Rattle.tcel_core.specs.declared.body.CoreStmt.{the_lemmas as stmt_lemmas}
use Rattle.tcel_core.proofs.Evaluation.{if_ok_by, statements_next}
use Rattle.tcel_core.proofs.PlainLaws.{plain_stmt-choice, plain_stmt-timed}
use Rattle.tcel_cost.specs.declared.numbers.Cost.{Cost}
use Rattle.tcel_cost.specs.CostSteps.{block_cost, held, passed}
use Rattle.tcel_cost.specs.Expressions.{expr_cycles}
use Rattle.tcel_cost.specs.PointSteps.{block_points, stmt_points}
use Rattle.tcel_cost.specs.Rooms.{HasRoom, block_most, stmt_most}
use Rattle.tcel_cost.specs.Walks.{held_entry, jump_cost}
use Rattle.tcel_cost.proofs.CostRooms.{block_held_room, inner_room, jump_room, less_room, stmt_room}
use Rattle.tcel_cost.proofs.PointCosts.{choice_points, points_on, timed_points}
use Rattle.tcel_cost.proofs.points.+points.Goals as goal

pub add_points-loop-stmt-preserved : goal.add_points-loop-stmt-preserved
add_points-loop-stmt-preserved t c =
    let list = c.args.body.now.list in
    let vars = c.args.vars.now in
    let costs = c.args.costs.now in
    let cost = c.loop-stmt.cost in
    let now = c.loop-stmt.invariant in
    let same = c.as_slice-stmt-items.ensures in
    let less = subst (λ l. c.loop-stmt.stmt-index < length l) same c.loop-stmt-test.true in
    let is = subst (λ l. c.stmt-item.result ≡ get_or l c.loop-stmt.stmt-index c.stmt-item.result) same c.stmt-item.is in
    let left = statements_next list c.loop-stmt.stmt-index c.stmt-item.result less is in
    let s = plain_stmt c.stmt-item.result in
    let rest = block_of (map plain_stmt (drop (c.loop-stmt.stmt-index + 1) list)) in
    let all = c.args.points.now ++ block_points (plain_body c.args.body.now) vars costs c.args.before.total in
    let room = subst (λ b. HasRoom cost (block_most b vars costs)) left now.0 in
    let whole = subst (λ b. block_cost b vars costs cost ≡ block_cost (plain_body c.args.body.now) vars costs c.args.before) left now.1 in
    let points = subst (λ b. c.loop-stmt.points ++ block_points b vars costs cost.total ≡ all) left now.2 in (
      subst (λ d. HasRoom d (block_most rest vars costs)) (sym c.in_ok-cost.ensures.cost) (stmt_room s vars costs cost (block_most rest vars costs) room),
      ap (block_cost rest vars costs) c.in_ok-cost.ensures.cost ∙ whole,
      points_on s rest vars costs cost c.in_ok-cost.cost c.loop-stmt.points c.add_stmt_points.new.points all c.in_ok-cost.ensures.cost c.in_ok-cost.ensures.points points,
    )

pub add_stmt_points-add_points-requires : goal.add_stmt_points-add_points-requires
unfolding core_stmt.roll-CoreStmt denote.Hole.Carrier.roll
add_stmt_points-add_points-requires t c =
    let vars = c.args.vars.now in
    let costs = c.args.costs.now in
    let one = block_most (plain_body c.in-If.yes) vars costs in
    let jump = jump_cost costs (plain_body c.in-If.no) in
    let two = block_most (plain_body c.in-If.no) vars costs in
    let room = subst (λ s. HasRoom c.args.before (stmt_most s vars costs)) (plain_stmt-choice c.in-If.id c.in-If.test c.in-If.yes c.in-If.no)
    (subst (λ s. HasRoom c.args.before (stmt_most (plain_stmt s) vars costs)) c.in-If.is c.requires) in
    let inner = inner_room c.args.before c.passed-inner.result (expr_cycles costs (plain_expr c.in-If.test)) c.expr_cycles.result costs.branch (one + jump + two) room c.expr_cycles.ensures c.passed-inner.ensures in
    (search (rules, stmt_lemmas), less_room c.passed-inner.result (one + jump + two) one (omega arith) inner)

pub add_stmt_points-add_points-requires-in-If : goal.add_stmt_points-add_points-requires-in-If
unfolding core_stmt.roll-CoreStmt denote.Hole.Carrier.roll
add_stmt_points-add_points-requires-in-If t c =
    let vars = c.args.vars.now in
    let costs = c.args.costs.now in
    let one = block_most (plain_body c.in-If.yes) vars costs in
    let jump = jump_cost costs (plain_body c.in-If.no) in
    let two = block_most (plain_body c.in-If.no) vars costs in
    let room = subst (λ s. HasRoom c.args.before (stmt_most s vars costs)) (plain_stmt-choice c.in-If.id c.in-If.test c.in-If.yes c.in-If.no)
    (subst (λ s. HasRoom c.args.before (stmt_most (plain_stmt s) vars costs)) c.in-If.is c.requires) in
    let inner = inner_room c.args.before c.passed-inner.result (expr_cycles costs (plain_expr c.in-If.test)) c.expr_cycles.result costs.branch (one + jump + two) room c.expr_cycles.ensures c.passed-inner.ensures in
    (search (rules, stmt_lemmas), less_room c.passed-inner.result (one + jump + two) two (omega arith) inner)

pub add_stmt_points-passed-requires : goal.add_stmt_points-passed-requires
unfolding core_stmt.roll-CoreStmt denote.Hole.Carrier.roll
add_stmt_points-passed-requires t c =
    let vars = c.args.vars.now in
    let costs = c.args.costs.now in
    let one = block_most (plain_body c.in-If.yes) vars costs in
    let jump = jump_cost costs (plain_body c.in-If.no) in
    let two = block_most (plain_body c.in-If.no) vars costs in
    let room = subst (λ s. HasRoom c.args.before (stmt_most s vars costs)) (plain_stmt-choice c.in-If.id c.in-If.test c.in-If.yes c.in-If.no)
    (subst (λ s. HasRoom c.args.before (stmt_most (plain_stmt s) vars costs)) c.in-If.is c.requires) in
    let inner = inner_room c.args.before c.passed-inner.result (expr_cycles costs (plain_expr c.in-If.test)) c.expr_cycles.result costs.branch (one + jump + two) room c.expr_cycles.ensures c.passed-inner.ensures in
    jump_room (plain_body c.in-If.yes) vars costs c.passed-inner.result c.in_ok-held-in-If.held jump c.jump_cost.result two inner c.in_ok-held-in-If.ensures.cost c.jump_cost.ensures

pub add_stmt_points-add_points-requires-in-Do : goal.add_stmt_points-add_points-requires-in-Do
unfolding core_stmt.roll-CoreStmt denote.Hole.Carrier.roll
add_stmt_points-add_points-requires-in-Do t c =
    let vars = c.args.vars.now in
    let costs = c.args.costs.now in
    let body = plain_body c.in-Do.body in
    let window : Window = record { after = c.in-Do.after; before = c.in-Do.start; within = c.in-Do.within } in
    let room = subst (λ s. HasRoom c.args.before (stmt_most s vars costs)) (plain_stmt-timed c.in-Do.id c.in-Do.after c.in-Do.start c.in-Do.within c.in-Do.body)
    (subst (λ s. HasRoom c.args.before (stmt_most (plain_stmt s) vars costs)) c.in-Do.is c.requires) in
    (search (rules, stmt_lemmas), block_held_room (hold_of window body) c.hold_of.result c.args.before c.held-inner.result (block_most body vars costs) room c.hold_of.ensures c.held-inner.ensures)

pub add_stmt_points-returns-in_ok-other-in-If-clause-points : goal.add_stmt_points-returns-in_ok-other-in-If-clause-points
unfolding core_stmt.roll-CoreStmt denote.Hole.Carrier.roll
add_stmt_points-returns-in_ok-other-in-If-clause-points t c =
    let vars = c.args.vars.now in
    let costs = c.args.costs.now in
    let old = c.args.points.now in
    let new = c.add_points-in-If.new.points in
    let entry = c.args.before.total in
    let inner = expr_cycles costs (plain_expr c.in-If.test) + costs.branch + entry in
    let same = ap (λ (d : Cost). d.total) (c.passed-inner.ensures ∙ ap (λ n. passed (n + costs.branch) c.args.before) c.expr_cycles.ensures) in
    subst (λ s. new ≡ old ++ stmt_points (plain_stmt s) vars costs entry) (sym c.in-If.is)
    (subst (λ s. new ≡ old ++ stmt_points s vars costs entry) (sym (plain_stmt-choice c.in-If.id c.in-If.test c.in-If.yes c.in-If.no))
    (choice_points (plain_body c.in-If.yes) (plain_body c.in-If.no) vars costs c.passed-inner.result.total inner old c.add_points.new.points new same
    c.in_ok-held-in-If.ensures.points c.in_ok-other-in-If.ensures.points))

pub add_stmt_points-returns-in_ok-push_point-in-Do-2-clause-points : goal.add_stmt_points-returns-in_ok-push_point-in-Do-2-clause-points
unfolding core_stmt.roll-CoreStmt denote.Hole.Carrier.roll
add_stmt_points-returns-in_ok-push_point-in-Do-2-clause-points t c =
    let vars = c.args.vars.now in
    let costs = c.args.costs.now in
    let old = c.args.points.now in
    let new = c.add_points-in-Do.new.points in
    let entry = c.args.before.total in
    let body = plain_body c.in-Do.body in
    let window : Window = record { after = c.in-Do.after; before = c.in-Do.start; within = c.in-Do.within } in
    let inner = held_entry (hold_of window body) entry in
    let same = ap (λ (d : Cost). d.total) (c.held-inner.ensures ∙ ap (λ o. held o c.args.before) c.hold_of.ensures) in
    if_ok_by c.add_points-in-Do.result
    (λ three. subst (λ s. new ≡ old ++ stmt_points (plain_stmt s) vars costs entry) (sym c.in-Do.is)
    (subst (λ s. new ≡ old ++ stmt_points s vars costs entry) (sym (plain_stmt-timed c.in-Do.id c.in-Do.after c.in-Do.start c.in-Do.within c.in-Do.body))
    (timed_points c.in-Do.id window body vars costs c.held-inner.result.total inner c.entered.result c.after_body-own.result old c.push_point.new.points c.push_point-in-Do.new.points new same
    c.entered.ensures c.after_body-own.ensures c.in_ok-push_point-in-Do.ensures c.in_ok-push_point-in-Do-2.ensures three)))
    c.add_points-in-Do.ensures.points
