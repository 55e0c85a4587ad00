use Rattle.std.proofs.Common.{◌≡◌, List, take, subst}
use Rattle.std.proofs.lemmas.List.{take_all}
use Rattle.tcel_tree.specs.declared.stmt.Stmt.{Stmt}
use Rattle.tcel_tree.specs.Plain.{plain_block}
use Rattle.tcel_check.specs.Known.{kind_in}
use Rattle.tcel_check.specs.Sights.{block_sights}
use Rattle.tcel_check.specs.Walks.{Saw}
use Rattle.tcel_check.proofs.SeeStmts.{see_more, see_assign, see_assign_at, see_receive, see_send, see_if, see_if_else, see_for, see_while, see_timed}
use Rattle.tcel_check.proofs.walk.Walk.+blocks.Goals as goal

pub block-loop-stmt-preserved : goal.block-loop-stmt-preserved
block-loop-stmt-preserved t c =
    see_more (kind_in c.args.names.now) c.args.loops c.args.stmts.now c.loop-stmt.stmt-index c.stmt-item.result c.loop-stmt-test.true c.stmt-item.is
    c.loop-stmt.invariant c.stmt.ensures

pub block-returns : goal.block-returns
block-returns t c =
    let all : take c.loop-stmt.stmt-index c.args.stmts.now ≡ c.args.stmts.now = take_all c.loop-stmt.stmt-index c.args.stmts.now c.loop-stmt-test.false in
    let kind = kind_in c.args.names.now in
    subst (λ (ss : List Stmt). Saw kind c.args.self.now c.loop-stmt.self (block_sights (plain_block ss) kind c.args.loops)) all c.loop-stmt.invariant

pub stmt-returns-in-Assign : goal.stmt-returns-in-Assign
stmt-returns-in-Assign t c =
    see_assign (kind_in c.args.names.now) c.args.loops c.args.stmt.now c.in-Assign.name c.in-Assign.value c.in-Assign.is
    (c.node.ensures _) c.assign.ensures

pub stmt-returns-in-AssignAt : goal.stmt-returns-in-AssignAt
stmt-returns-in-AssignAt t c =
    see_assign_at (kind_in c.args.names.now) c.args.loops c.args.stmt.now c.in-AssignAt.name c.in-AssignAt.index c.in-AssignAt.value c.in-AssignAt.is
    (c.node.ensures _) c.name.ensures c.expr.ensures c.expr-in-AssignAt.ensures

pub stmt-returns-in-Receive : goal.stmt-returns-in-Receive
stmt-returns-in-Receive t c =
    see_receive (kind_in c.args.names.now) c.args.loops c.args.stmt.now
    c.in-Receive.name c.in-Receive.name_at c.in-Receive.port c.in-Receive.port_at c.in-Receive.is
    (c.node.ensures _) c.name-in-Receive.ensures c.name-in-Receive-2.ensures

pub stmt-returns-in-Send : goal.stmt-returns-in-Send
stmt-returns-in-Send t c =
    see_send (kind_in c.args.names.now) c.args.loops c.args.stmt.now c.in-Send.value c.in-Send.port c.in-Send.port_at c.in-Send.is
    (c.node.ensures _) c.expr-in-Send.ensures c.name-in-Send.ensures

pub stmt-returns-in-None : goal.stmt-returns-in-None
stmt-returns-in-None t c =
    see_if (kind_in c.args.names.now) c.args.loops c.args.stmt.now c.in-If.test c.in-If.yes c.in-If.no c.in-If.is c.in-None.is c.as_slice.ensures
    (c.node.ensures _) c.expr-in-If.ensures c.block.ensures

pub stmt-returns-in-Some : goal.stmt-returns-in-Some
stmt-returns-in-Some t c =
    see_if_else (kind_in c.args.names.now) c.args.loops c.args.stmt.now c.in-If.test c.in-If.yes c.in-Some.other c.in-If.no
    c.in-If.is c.in-Some.is c.as_slice.ensures c.as_slice-in-Some.ensures
    (c.node.ensures _) c.expr-in-If.ensures c.block.ensures c.block-in-Some.ensures

pub stmt-returns-in-For : goal.stmt-returns-in-For
stmt-returns-in-For t c =
    see_for (kind_in c.args.names.now) c.args.loops c.args.stmt.now c.in-For.name c.in-For.name_at c.in-For.turns c.in-For.body
    c.in-For.is c.as_slice-in-For.ensures c.inside.ensures
    (c.node.ensures _) (c.enter.ensures _) c.name-in-For.ensures (c.bound.ensures _) c.block-in-For.ensures

pub stmt-returns-in-While : goal.stmt-returns-in-While
stmt-returns-in-While t c =
    see_while (kind_in c.args.names.now) c.args.loops c.args.stmt.now c.in-While.test c.in-While.turns c.in-While.body
    c.in-While.is c.as_slice-in-While.ensures c.inside-in-While.ensures
    (c.node.ensures _) (c.enter-in-While.ensures _) c.expr-in-While.ensures (c.bound-in-While.ensures _) c.block-in-While.ensures

pub stmt-returns-in-Do : goal.stmt-returns-in-Do
stmt-returns-in-Do t c =
    see_timed (kind_in c.args.names.now) c.args.loops c.args.stmt.now c.in-Do.window c.in-Do.body c.in-Do.is c.as_slice-in-Do.ensures
    (c.node.ensures _) (c.window.ensures _) (c.clauses.ensures _) c.block-in-Do.ensures
