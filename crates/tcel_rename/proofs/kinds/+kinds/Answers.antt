use Rattle.std.proofs.Common.{◌≡◌, ◌||◌, ◌≤◌, length, map, drop, refl, sym, ap, ◌∙◌, subst, arith}
use Rattle.tcel_core.specs.Paths.{points, stmt_points}
use Rattle.tcel_core.specs.Plain.{block_of, plain_body, plain_expr, plain_stmt}
use Rattle.tcel_core.specs.declared.body.CoreStmt as core_stmt
use Rattle.tcel_core.proofs.PlainLaws.{plain_stmt-choice, plain_stmt-timed}
use Rattle.tcel_rename.specs.Sets.{FindsInBlock, FindsInStmt, by_list, holds_among}
use Rattle.tcel_rename.proofs.Finding.{all_statements, block_before, finds_next, finds_choice, holds_next, holds_choice}
use Rattle.tcel_rename.proofs.kinds.+kinds.Goals as goal

pub find_in_body-loop-left-preserved : goal.find_in_body-loop-left-preserved
find_in_body-loop-left-preserved t c =
    let xs = c.as_slice-stmts.result.now in
    let n = c.loop-left.left in
    let x = c.index-stmts-left.result in
    let most : n ≤ length xs = c.loop-left.invariant.within in
    let rest = block_of (map plain_stmt (drop n xs)) in
    let before = block_before xs n x c.loop-left-test.true most c.index-stmts-left.is in
    record {
      within = omega arith;
      holds = λ vars whole.
          let s = by_list vars whole c.args.kept.now.list in
          subst (λ b. (c.find_in_stmt-here.result || c.loop-left.holds) ≡ holds_among s (points b)) (sym before)
          (holds_next s (plain_stmt x) rest c.find_in_stmt-here.result c.loop-left.holds (c.find_in_stmt-here.ensures.holds vars whole) (c.loop-left.invariant.holds vars whole));
      found = λ vars whole.
          let s = by_list vars whole c.args.kept.now.list in
          subst (λ b. FindsInBlock s b c.args.found.now c.find_in_stmt-here.new.found) (sym before)
          (finds_next s (plain_stmt x) rest c.args.found.now c.loop-left.found c.find_in_stmt-here.new.found (c.loop-left.invariant.found vars whole) (c.find_in_stmt-here.ensures.found vars whole));
    }

pub find_in_body-returns-clause-holds : goal.find_in_body-returns-clause-holds
find_in_body-returns-clause-holds t c = λ vars whole.
    let all = all_statements c.args.body.now c.as_slice-stmts.result.now c.loop-left.left c.as_slice-stmts.ensures (omega arith) in
    subst (λ b. c.loop-left.holds ≡ holds_among (by_list vars whole c.args.kept.now.list) (points b)) all (c.loop-left.invariant.holds vars whole)

pub find_in_body-returns-clause-found : goal.find_in_body-returns-clause-found
find_in_body-returns-clause-found t c = λ vars whole.
    let all = all_statements c.args.body.now c.as_slice-stmts.result.now c.loop-left.left c.as_slice-stmts.ensures (omega arith) in
    subst (λ b. FindsInBlock (by_list vars whole c.args.kept.now.list) b c.args.found.now c.loop-left.found) all (c.loop-left.invariant.found vars whole)

pub find_in_stmt-returns-in-If-clause-holds : goal.find_in_stmt-returns-in-If-clause-holds
unfolding core_stmt.roll-CoreStmt denote.Hole.Carrier.roll
find_in_stmt-returns-in-If-clause-holds t c = λ vars whole.
    let s = by_list vars whole c.args.kept.now.list in
    subst (λ x. (c.find_in_body-first.result || c.find_in_body-second.result) ≡ holds_among s (stmt_points (plain_stmt x))) (sym c.in-If.is)
    (subst (λ x. (c.find_in_body-first.result || c.find_in_body-second.result) ≡ holds_among s (stmt_points x)) (sym (plain_stmt-choice c.in-If.id c.in-If.test c.in-If.yes c.in-If.no))
    (holds_choice s c.in-If.id (plain_expr c.in-If.test) (plain_body c.in-If.yes) (plain_body c.in-If.no) c.find_in_body-first.result c.find_in_body-second.result (c.find_in_body-first.ensures.holds vars whole)
    (c.find_in_body-second.ensures.holds vars whole)))

pub find_in_stmt-returns-in-If-clause-found : goal.find_in_stmt-returns-in-If-clause-found
unfolding core_stmt.roll-CoreStmt denote.Hole.Carrier.roll
find_in_stmt-returns-in-If-clause-found t c = λ vars whole.
    let s = by_list vars whole c.args.kept.now.list in
    subst (λ x. FindsInStmt s (plain_stmt x) c.args.found.now c.find_in_test.new.found) (sym c.in-If.is)
    (subst (λ x. FindsInStmt s x c.args.found.now c.find_in_test.new.found) (sym (plain_stmt-choice c.in-If.id c.in-If.test c.in-If.yes c.in-If.no))
    (finds_choice s c.in-If.id (plain_expr c.in-If.test) (plain_body c.in-If.yes) (plain_body c.in-If.no) c.args.found.now c.find_in_body-second.new.found _ c.find_in_body-first.new.found c.find_in_test.new.found
    (c.find_in_body-second.ensures.found vars whole) refl refl refl refl (c.find_in_body-first.ensures.found vars whole) c.add.new.self c.add.ensures (c.find_in_body-first.result || c.find_in_body-second.result)
    (ap (λ b. b || c.find_in_body-second.result) (c.find_in_body-first.ensures.holds vars whole) ∙ ap (λ b. holds_among s (points (plain_body c.in-If.yes)) || b) (c.find_in_body-second.ensures.holds vars whole))
    c.find_in_test.ensures))

pub find_in_stmt-returns-in-Do-clause-holds : goal.find_in_stmt-returns-in-Do-clause-holds
unfolding core_stmt.roll-CoreStmt denote.Hole.Carrier.roll
find_in_stmt-returns-in-Do-clause-holds t c = λ vars whole.
    let s = by_list vars whole c.args.kept.now.list in
    subst (λ x. c.find_in_body.result ≡ holds_among s (stmt_points (plain_stmt x))) (sym c.in-Do.is)
    (subst (λ x. c.find_in_body.result ≡ holds_among s (stmt_points x)) (sym (plain_stmt-timed c.in-Do.id c.in-Do.after c.in-Do.before c.in-Do.within c.in-Do.body)) (c.find_in_body.ensures.holds vars whole))

pub find_in_stmt-returns-in-Do-clause-found : goal.find_in_stmt-returns-in-Do-clause-found
unfolding core_stmt.roll-CoreStmt denote.Hole.Carrier.roll
find_in_stmt-returns-in-Do-clause-found t c = λ vars whole.
    let s = by_list vars whole c.args.kept.now.list in
    subst (λ x. FindsInStmt s (plain_stmt x) c.args.found.now c.find_in_body.new.found) (sym c.in-Do.is)
    (subst (λ x. FindsInStmt s x c.args.found.now c.find_in_body.new.found) (sym (plain_stmt-timed c.in-Do.id c.in-Do.after c.in-Do.before c.in-Do.within c.in-Do.body)) (c.find_in_body.ensures.found vars whole))
