use Rattle.std.proofs.Common.{rules, ◌≡◌, ◌+◌, ◌<◌, ◌∙◌, length, get_or, map, drop, sym, ap, subst, arith}
use Rattle.tcel_core.specs.Contents.{hold_of}
use Rattle.tcel_core.specs.Language.{Window}
use Rattle.tcel_core.specs.Plain.{block_of, plain_body, plain_expr, plain_item, plain_stmt}
use Rattle.tcel_core.specs.declared.body.CoreStmt as core_stmt
use Rattle.tcel_core.specs.declared.body.CoreStmt.{the_lemmas as stmt_lemmas}
use Rattle.tcel_core.specs.declared.body.Item as core_item
use Rattle.tcel_core.proofs.Evaluation.{statements_next}
use Rattle.tcel_core.proofs.PlainLaws.{plain_item-for, plain_item-while, plain_stmt-choice, plain_stmt-timed}
use Rattle.tcel_cost.specs.CostSteps.{block_cost, entered, passed}
use Rattle.tcel_cost.specs.Expressions.{expr_cycles}
use Rattle.tcel_cost.specs.Rooms.{HasRoom, act_most, block_most, stmt_most}
use Rattle.tcel_cost.specs.Walks.{jump_cost}
use Rattle.tcel_cost.proofs.CostRooms.{block_held_room, can_join, can_repeat, inner_room, jump_room, less_room, round_room, stmt_room, test_room}
use Rattle.tcel_cost.proofs.bodies.+bodies.Goals as goal

pub after_body-loop-stmt-preserved : goal.after_body-loop-stmt-preserved
after_body-loop-stmt-preserved t c =
    let list = c.args.body.now.list in
    let vars = c.args.vars.now in
    let costs = c.args.costs.now in
    let cost = c.loop-stmt.cost in
    let now = c.loop-stmt.invariant in
    let same = c.as_slice-stmt-items.ensures in
    let less = subst (λ l. c.loop-stmt.stmt-index < length l) same c.loop-stmt-test.true in
    let is = subst (λ l. c.stmt-item.result ≡ get_or l c.loop-stmt.stmt-index c.stmt-item.result) same c.stmt-item.is in
    let left = statements_next list c.loop-stmt.stmt-index c.stmt-item.result less is in
    let rest = block_of (map plain_stmt (drop (c.loop-stmt.stmt-index + 1) list)) in
    let room = subst (λ b. HasRoom cost (block_most b vars costs)) left now.0 in
    let whole = subst (λ b. block_cost b vars costs cost ≡ block_cost (plain_body c.args.body.now) vars costs c.args.before) left now.1 in (
      subst (λ d. HasRoom d (block_most rest vars costs)) (sym c.after_stmt-cost.ensures) (stmt_room (plain_stmt c.stmt-item.result) vars costs cost (block_most rest vars costs) room),
      ap (block_cost rest vars costs) c.after_stmt-cost.ensures ∙ whole,
    )

pub after_item-rounds-requires : goal.after_item-rounds-requires
unfolding core_item.roll-Item denote.Hole.Carrier.roll
after_item-rounds-requires t c =
    let vars = c.args.vars.now in
    let costs = c.args.costs.now in
    let body = plain_body c.in-For.body in
    let room = subst (λ a. HasRoom c.args.before (act_most a vars costs)) (plain_item-for c.in-For.field-0 c.in-For.turns c.in-For.body)
    (subst (λ i. HasRoom c.args.before (act_most (plain_item i) vars costs)) c.in-For.is c.requires) in
    can_repeat body vars costs c.args.before (costs.const_ + costs.store) (costs.load + costs.store) c.in-For.turns c.after_round-round.result room c.after_round-round.ensures

pub after_item-joined-requires : goal.after_item-joined-requires
unfolding core_item.roll-Item denote.Hole.Carrier.roll
after_item-joined-requires t c =
    let vars = c.args.vars.now in
    let costs = c.args.costs.now in
    let body = plain_body c.in-For.body in
    let room = subst (λ a. HasRoom c.args.before (act_most a vars costs)) (plain_item-for c.in-For.field-0 c.in-For.turns c.in-For.body)
    (subst (λ i. HasRoom c.args.before (act_most (plain_item i) vars costs)) c.in-For.is c.requires) in
    can_join body vars costs c.args.before (costs.const_ + costs.store) (costs.load + costs.store) c.in-For.turns c.passed-begun.result c.after_round-round.result c.rounds.result
    room c.passed-begun.ensures c.after_round-round.ensures c.rounds.ensures

pub after_item-passed-requires-in-While : goal.after_item-passed-requires-in-While
unfolding core_item.roll-Item denote.Hole.Carrier.roll
after_item-passed-requires-in-While t c =
    let vars = c.args.vars.now in
    let costs = c.args.costs.now in
    let body = plain_body c.in-While.body in
    let test = plain_expr c.in-While.test in
    let room = subst (λ a. HasRoom c.args.before (act_most a vars costs)) (plain_item-while c.in-While.test c.in-While.turns c.in-While.body)
    (subst (λ i. HasRoom c.args.before (act_most (plain_item i) vars costs)) c.in-While.is c.requires) in
    test_room body vars costs c.args.before (costs.const_ + costs.store) (expr_cycles costs test + costs.branch) c.in-While.turns c.passed-begun-in-While.result
    (c.expr_cycles-in-While.result + costs.branch) room c.passed-begun-in-While.ensures (ap (λ n. n + costs.branch) c.expr_cycles-in-While.ensures)

pub after_item-rounds-requires-in-While : goal.after_item-rounds-requires-in-While
unfolding core_item.roll-Item denote.Hole.Carrier.roll
after_item-rounds-requires-in-While t c =
    let vars = c.args.vars.now in
    let costs = c.args.costs.now in
    let body = plain_body c.in-While.body in
    let test = plain_expr c.in-While.test in
    let room = subst (λ a. HasRoom c.args.before (act_most a vars costs)) (plain_item-while c.in-While.test c.in-While.turns c.in-While.body)
    (subst (λ i. HasRoom c.args.before (act_most (plain_item i) vars costs)) c.in-While.is c.requires) in
    can_repeat body vars costs c.args.before (costs.const_ + costs.store) (expr_cycles costs test + costs.branch) c.in-While.turns c.after_round-round-in-While.result room
    (c.after_round-round-in-While.ensures ∙ ap (λ n. passed costs.loop_ (block_cost body vars costs (entered (n + costs.branch)))) c.expr_cycles-in-While.ensures)

pub after_item-joined-requires-in-While : goal.after_item-joined-requires-in-While
unfolding core_item.roll-Item denote.Hole.Carrier.roll
after_item-joined-requires-in-While t c =
    let vars = c.args.vars.now in
    let costs = c.args.costs.now in
    let body = plain_body c.in-While.body in
    let test = plain_expr c.in-While.test in
    let room = subst (λ a. HasRoom c.args.before (act_most a vars costs)) (plain_item-while c.in-While.test c.in-While.turns c.in-While.body)
    (subst (λ i. HasRoom c.args.before (act_most (plain_item i) vars costs)) c.in-While.is c.requires) in
    can_join body vars costs c.args.before (costs.const_ + costs.store) (expr_cycles costs test + costs.branch) c.in-While.turns c.passed-begun-in-While.result
    c.after_round-round-in-While.result c.rounds-in-While.result room c.passed-begun-in-While.ensures
    (c.after_round-round-in-While.ensures ∙ ap (λ n. passed costs.loop_ (block_cost body vars costs (entered (n + costs.branch)))) c.expr_cycles-in-While.ensures)
    c.rounds-in-While.ensures

pub after_round-passed-requires : goal.after_round-passed-requires
after_round-passed-requires t c =
    round_room (plain_body c.args.body.now) c.args.vars.now c.args.costs.now c.args.begun c.entered.result c.after_body.result c.requires c.entered.ensures c.after_body.ensures

pub after_stmt-after_body-held-requires : goal.after_stmt-after_body-held-requires
unfolding core_stmt.roll-CoreStmt denote.Hole.Carrier.roll
after_stmt-after_body-held-requires t c =
    let vars = c.args.vars.now in
    let costs = c.args.costs.now in
    let one = block_most (plain_body c.in-If.yes) vars costs in
    let jump = jump_cost costs (plain_body c.in-If.no) in
    let two = block_most (plain_body c.in-If.no) vars costs in
    let room = subst (λ s. HasRoom c.args.before (stmt_most s vars costs)) (plain_stmt-choice c.in-If.id c.in-If.test c.in-If.yes c.in-If.no)
    (subst (λ s. HasRoom c.args.before (stmt_most (plain_stmt s) vars costs)) c.in-If.is c.requires) in
    let inner = inner_room c.args.before c.passed-inner.result (expr_cycles costs (plain_expr c.in-If.test)) c.expr_cycles.result costs.branch (one + jump + two) room c.expr_cycles.ensures c.passed-inner.ensures in
    (search (rules, stmt_lemmas), less_room c.passed-inner.result (one + jump + two) one (omega arith) inner)

pub after_stmt-after_body-other-requires : goal.after_stmt-after_body-other-requires
unfolding core_stmt.roll-CoreStmt denote.Hole.Carrier.roll
after_stmt-after_body-other-requires t c =
    let vars = c.args.vars.now in
    let costs = c.args.costs.now in
    let one = block_most (plain_body c.in-If.yes) vars costs in
    let jump = jump_cost costs (plain_body c.in-If.no) in
    let two = block_most (plain_body c.in-If.no) vars costs in
    let room = subst (λ s. HasRoom c.args.before (stmt_most s vars costs)) (plain_stmt-choice c.in-If.id c.in-If.test c.in-If.yes c.in-If.no)
    (subst (λ s. HasRoom c.args.before (stmt_most (plain_stmt s) vars costs)) c.in-If.is c.requires) in
    let inner = inner_room c.args.before c.passed-inner.result (expr_cycles costs (plain_expr c.in-If.test)) c.expr_cycles.result costs.branch (one + jump + two) room c.expr_cycles.ensures c.passed-inner.ensures in
    (search (rules, stmt_lemmas), less_room c.passed-inner.result (one + jump + two) two (omega arith) inner)

pub after_stmt-passed-requires : goal.after_stmt-passed-requires
unfolding core_stmt.roll-CoreStmt denote.Hole.Carrier.roll
after_stmt-passed-requires t c =
    let vars = c.args.vars.now in
    let costs = c.args.costs.now in
    let one = block_most (plain_body c.in-If.yes) vars costs in
    let jump = jump_cost costs (plain_body c.in-If.no) in
    let two = block_most (plain_body c.in-If.no) vars costs in
    let room = subst (λ s. HasRoom c.args.before (stmt_most s vars costs)) (plain_stmt-choice c.in-If.id c.in-If.test c.in-If.yes c.in-If.no)
    (subst (λ s. HasRoom c.args.before (stmt_most (plain_stmt s) vars costs)) c.in-If.is c.requires) in
    let inner = inner_room c.args.before c.passed-inner.result (expr_cycles costs (plain_expr c.in-If.test)) c.expr_cycles.result costs.branch (one + jump + two) room c.expr_cycles.ensures c.passed-inner.ensures in
    jump_room (plain_body c.in-If.yes) vars costs c.passed-inner.result c.after_body-held.result jump c.jump_cost.result two inner c.after_body-held.ensures c.jump_cost.ensures

pub after_stmt-after_body-requires : goal.after_stmt-after_body-requires
unfolding core_stmt.roll-CoreStmt denote.Hole.Carrier.roll
after_stmt-after_body-requires t c =
    let vars = c.args.vars.now in
    let costs = c.args.costs.now in
    let body = plain_body c.in-Do.body in
    let window : Window = record { after = c.in-Do.after; before = c.in-Do.before; within = c.in-Do.within } in
    let room = subst (λ s. HasRoom c.args.before (stmt_most s vars costs)) (plain_stmt-timed c.in-Do.id c.in-Do.after c.in-Do.before c.in-Do.within c.in-Do.body)
    (subst (λ s. HasRoom c.args.before (stmt_most (plain_stmt s) vars costs)) c.in-Do.is c.requires) in
    (search (rules, stmt_lemmas), block_held_room (hold_of window body) c.hold_of.result c.args.before c.held.result (block_most body vars costs) room c.hold_of.ensures c.held.ensures)
