use Rattle.std.proofs.Common.{◌≡◌, ◌++◌, ◌<◌, ◌≤◌, length, get_or, sym, ap, ◌∙◌, subst}
use Rattle.tcel_core.specs.Paths.{points, stmt_points}
use Rattle.tcel_core.specs.Plain.{plain_body, plain_expr, plain_stmt}
use Rattle.tcel_core.specs.declared.body.CoreStmt as core_stmt
use Rattle.tcel_core.proofs.PlainLaws.{plain_body-list, plain_stmt-choice, plain_stmt-timed}
use Rattle.tcel_flow.proofs.Extending.{take_all}
use Rattle.tcel_rename.specs.Halves.{stmts_of, AreWithin, AreHalves, AddHalves}
use Rattle.tcel_rename.specs.Sets.{by_list}
use Rattle.tcel_rename.proofs.Growing.{choice_added, halves_more, timed_added, within_back, within_front, within_one, within_tail}
use Rattle.tcel_rename.proofs.halves.+halves.Goals as goal

pub halve_body-loop-stmt-preserved : goal.halve_body-loop-stmt-preserved
halve_body-loop-stmt-preserved t c = λ vars whole plan within.
    let s = by_list vars whole c.args.kept.now.list in
    let body = c.args.body.now in
    let x = c.stmt-item.result in
    let i = c.loop-stmt.stmt-index in
    let same = c.as_slice-stmt-items.ensures in
    let less = subst (λ l. i < length l) same c.loop-stmt-test.true in
    let is = subst (λ l. x ≡ get_or l i x) same c.stmt-item.is in
    halves_more s body.list i x c.loop-stmt.first c.halve_stmt.new.first c.loop-stmt.rest c.halve_stmt.new.rest less is (c.loop-stmt.invariant vars whole plan within)
    (c.in_ok-halve_stmt.ensures vars whole plan (within_one body.list i x (points whole) less is (subst (λ b. AreWithin (points b) (points whole)) (plain_body-list body) within)))

pub halve_body-returns : goal.halve_body-returns
halve_body-returns t c = λ vars whole plan within.
    let same = c.as_slice-stmt-items.ensures in
    let past = subst (λ l. length l ≤ c.loop-stmt.stmt-index) same c.loop-stmt-test.false in
    let most = subst (λ l. c.loop-stmt.stmt-index ≤ length l) same c.loop-stmt.auto.stmt-index-end in
    subst (λ b. AreHalves (by_list vars whole c.args.kept.now.list) b c.loop-stmt.first c.loop-stmt.rest)
    (ap stmts_of (take_all c.args.body.now.list c.loop-stmt.stmt-index past most) ∙ sym (plain_body-list c.args.body.now)) (c.loop-stmt.invariant vars whole plan within)

pub halve_stmt-returns-in_ok-halve_choice-in-If : goal.halve_stmt-returns-in_ok-halve_choice-in-If
unfolding core_stmt.roll-CoreStmt denote.Hole.Carrier.roll
halve_stmt-returns-in_ok-halve_choice-in-If t c = λ vars whole plan within.
    let s = by_list vars whole c.args.kept.now.list in
    let H = plain_body c.in-If.yes in
    let O = plain_body c.in-If.no in
    let is = ap plain_stmt c.in-If.is ∙ plain_stmt-choice c.in-If.id c.in-If.test c.in-If.yes c.in-If.no in
    let there = subst (λ u. AreWithin (stmt_points u) (points whole)) is within in
    let branches = within_tail _ (points H ++ points O) (points whole) there in
    subst (λ u. AddHalves s u c.args.first.now c.halve_choice.new.first c.args.rest.now c.halve_choice.new.rest) (sym is)
    (choice_added s c.args.sets.now c.args.numbers.now plan c.in-If.id (plain_expr c.in-If.test) H O c.in_ok-held-in-If.held.first c.in_ok-held-in-If.held.rest c.in_ok-other-in-If.other.first c.in_ok-other-in-If.other.rest
    c.args.first.now c.halve_choice.new.first c.args.rest.now c.halve_choice.new.rest (c.in_ok-held-in-If.ensures vars whole plan (within_front (points H) (points O) (points whole) branches))
    (c.in_ok-other-in-If.ensures vars whole plan (within_back (points H) (points O) (points whole) branches)) there c.in_ok-halve_choice-in-If.ensures.first c.in_ok-halve_choice-in-If.ensures.rest)

pub halve_stmt-returns-in_ok-halve_timed-in-Do : goal.halve_stmt-returns-in_ok-halve_timed-in-Do
unfolding core_stmt.roll-CoreStmt denote.Hole.Carrier.roll
halve_stmt-returns-in_ok-halve_timed-in-Do t c = λ vars whole plan within.
    let s = by_list vars whole c.args.kept.now.list in
    let is = ap plain_stmt c.in-Do.is ∙ plain_stmt-timed c.in-Do.id c.in-Do.after c.in-Do.before c.in-Do.within c.in-Do.body in
    let there = subst (λ u. AreWithin (stmt_points u) (points whole)) is within in
    subst (λ u. AddHalves s u c.args.first.now c.halve_timed.new.first c.args.rest.now c.halve_timed.new.rest) (sym is)
    (timed_added s c.in-Do.id _ (plain_body c.in-Do.body) c.in_ok-cut-in-Do.cut.first c.in_ok-cut-in-Do.cut.rest c.args.first.now c.halve_timed.new.first c.args.rest.now c.halve_timed.new.rest
    (c.in_ok-cut-in-Do.ensures vars whole plan there) c.in_ok-halve_timed-in-Do.ensures.first c.in_ok-halve_timed-in-Do.ensures.rest)
