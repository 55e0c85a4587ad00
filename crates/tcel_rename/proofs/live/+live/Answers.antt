use Rattle.std.proofs.Common.{◌≡◌, ◌||◌, ◌≤◌, length, map, drop, sym, ap, ◌∙◌, subst, arith}
use Rattle.tcel_core.specs.Paths.{points, stmt_points}
use Rattle.tcel_core.specs.Plain.{block_of, plain_body, plain_expr, plain_stmt}
use Rattle.tcel_core.specs.declared.body.CoreStmt as core_stmt
use Rattle.tcel_core.proofs.PlainLaws.{plain_stmt-choice, plain_stmt-timed}
use Rattle.tcel_rename.specs.Lives.{FindsLiveInBlock, FindsLiveInStmt}
use Rattle.tcel_rename.specs.Sets.{by_list, holds_among}
use Rattle.tcel_rename.proofs.Finding.{all_statements, block_before, holds_next, holds_choice}
use Rattle.tcel_rename.proofs.FindingLive.{lives_next, lives_choice}
use Rattle.tcel_rename.proofs.live.+live.Goals as goal

pub live_in_body-loop-left-preserved : goal.live_in_body-loop-left-preserved
live_in_body-loop-left-preserved t c =
    let xs = c.as_slice-stmts.result.now in
    let n = c.loop-left.left in
    let x = c.index-stmts-left.result in
    let most : n ≤ length xs = c.loop-left.invariant.within in
    let rest = block_of (map plain_stmt (drop n xs)) in
    let before = block_before xs n x c.loop-left-test.true most c.index-stmts-left.is in
    record {
      within = omega arith;
      holds = λ vars whole.
          let s = by_list vars whole c.args.kept.now.list in
          subst (λ b. (c.live_in_stmt-here.result || c.loop-left.holds) ≡ holds_among s (points b)) (sym before)
          (holds_next s (plain_stmt x) rest c.live_in_stmt-here.result c.loop-left.holds (c.live_in_stmt-here.ensures.holds vars whole) (c.loop-left.invariant.holds vars whole));
      found = λ vars whole.
          let s = by_list vars whole c.args.kept.now.list in
          subst (λ b. FindsLiveInBlock s c.args.third.now b c.args.wanted.now c.args.lives.now c.live_in_stmt-here.new.wanted c.live_in_stmt-here.new.lives) (sym before)
          (lives_next s c.args.third.now (plain_stmt x) rest c.args.wanted.now c.loop-left.wanted c.live_in_stmt-here.new.wanted c.args.lives.now c.loop-left.lives c.live_in_stmt-here.new.lives (c.loop-left.invariant.found vars whole)
          (c.live_in_stmt-here.ensures.found vars whole));
    }

pub live_in_body-returns-clause-holds : goal.live_in_body-returns-clause-holds
live_in_body-returns-clause-holds t c = λ vars whole.
    let all = all_statements c.args.body.now c.as_slice-stmts.result.now c.loop-left.left c.as_slice-stmts.ensures (omega arith) in
    subst (λ b. c.loop-left.holds ≡ holds_among (by_list vars whole c.args.kept.now.list) (points b)) all (c.loop-left.invariant.holds vars whole)

pub live_in_body-returns-clause-found : goal.live_in_body-returns-clause-found
live_in_body-returns-clause-found t c = λ vars whole.
    let all = all_statements c.args.body.now c.as_slice-stmts.result.now c.loop-left.left c.as_slice-stmts.ensures (omega arith) in
    subst (λ b. FindsLiveInBlock (by_list vars whole c.args.kept.now.list) c.args.third.now b c.args.wanted.now c.args.lives.now c.loop-left.wanted c.loop-left.lives) all (c.loop-left.invariant.found vars whole)

pub live_in_stmt-returns-in-Do-clause-holds : goal.live_in_stmt-returns-in-Do-clause-holds
unfolding core_stmt.roll-CoreStmt denote.Hole.Carrier.roll
live_in_stmt-returns-in-Do-clause-holds t c = λ vars whole.
    let s = by_list vars whole c.args.kept.now.list in
    subst (λ x. c.live_in_body.result ≡ holds_among s (stmt_points (plain_stmt x))) (sym c.in-Do.is)
    (subst (λ x. c.live_in_body.result ≡ holds_among s (stmt_points x)) (sym (plain_stmt-timed c.in-Do.id c.in-Do.after c.in-Do.before c.in-Do.within c.in-Do.body)) (c.live_in_body.ensures.holds vars whole))

pub live_in_stmt-returns-in-Do-clause-found : goal.live_in_stmt-returns-in-Do-clause-found
unfolding core_stmt.roll-CoreStmt denote.Hole.Carrier.roll
live_in_stmt-returns-in-Do-clause-found t c = λ vars whole.
    let s = by_list vars whole c.args.kept.now.list in
    subst (λ x. FindsLiveInStmt s c.args.third.now (plain_stmt x) c.args.wanted.now c.args.lives.now c.live_in_body.new.wanted c.live_in_body.new.lives) (sym c.in-Do.is)
    (subst (λ x. FindsLiveInStmt s c.args.third.now x c.args.wanted.now c.args.lives.now c.live_in_body.new.wanted c.live_in_body.new.lives) (sym (plain_stmt-timed c.in-Do.id c.in-Do.after c.in-Do.before c.in-Do.within c.in-Do.body)) (c.live_in_body.ensures.found vars whole))

pub live_in_stmt-returns-in-If-clause-holds : goal.live_in_stmt-returns-in-If-clause-holds
unfolding core_stmt.roll-CoreStmt denote.Hole.Carrier.roll
live_in_stmt-returns-in-If-clause-holds t c = λ vars whole.
    let s = by_list vars whole c.args.kept.now.list in
    subst (λ x. (c.live_in_body-first.result || c.live_in_body-second.result) ≡ holds_among s (stmt_points (plain_stmt x))) (sym c.in-If.is)
    (subst (λ x. (c.live_in_body-first.result || c.live_in_body-second.result) ≡ holds_among s (stmt_points x)) (sym (plain_stmt-choice c.in-If.id c.in-If.test c.in-If.yes c.in-If.no))
    (holds_choice s c.in-If.id (plain_expr c.in-If.test) (plain_body c.in-If.yes) (plain_body c.in-If.no) c.live_in_body-first.result c.live_in_body-second.result (c.live_in_body-first.ensures.holds vars whole)
    (c.live_in_body-second.ensures.holds vars whole)))

pub live_in_stmt-returns-in-If-clause-found : goal.live_in_stmt-returns-in-If-clause-found
unfolding core_stmt.roll-CoreStmt denote.Hole.Carrier.roll
live_in_stmt-returns-in-If-clause-found t c = λ vars whole.
    let s = by_list vars whole c.args.kept.now.list in
    subst (λ x. FindsLiveInStmt s c.args.third.now (plain_stmt x) c.args.wanted.now c.args.lives.now c.want_test.new.wanted c.live_in_body-first.new.lives) (sym c.in-If.is)
    (subst (λ x. FindsLiveInStmt s c.args.third.now x c.args.wanted.now c.args.lives.now c.want_test.new.wanted c.live_in_body-first.new.lives) (sym (plain_stmt-choice c.in-If.id c.in-If.test c.in-If.yes c.in-If.no))
    (lives_choice s c.args.third.now c.in-If.id (plain_expr c.in-If.test) (plain_body c.in-If.yes) (plain_body c.in-If.no) c.args.wanted.now c.live_in_body-second.new.wanted c.live_in_body-first.new.wanted c.args.lives.now
    c.live_in_body-second.new.lives c.live_in_body-first.new.lives (c.live_in_body-second.ensures.found vars whole) (c.live_in_body-first.ensures.found vars whole) c.add.new.self c.add.ensures
    (c.live_in_body-first.result || c.live_in_body-second.result)
    (ap (λ b. b || c.live_in_body-second.result) (c.live_in_body-first.ensures.holds vars whole) ∙ ap (λ b. holds_among s (points (plain_body c.in-If.yes)) || b) (c.live_in_body-second.ensures.holds vars whole))
    c.want_test.new.wanted c.want_test.ensures))
