use Rattle.std.proofs.Common.{not, ◌||◌, ◌≤◌, length, map, drop, sym, subst, arith}
use Rattle.tcel_core.specs.Paths.{points, stmt_points}
use Rattle.tcel_core.specs.Plain.{block_of, plain_body, plain_stmt}
use Rattle.tcel_core.specs.declared.body.CoreStmt as core_stmt
use Rattle.tcel_core.proofs.PlainLaws.{plain_stmt-item, plain_stmt-choice, plain_stmt-timed}
use Rattle.tcel_rename.specs.Sets.{by_list}
use Rattle.tcel_rename.specs.Splits.{FindsSides}
use Rattle.tcel_rename.specs.declared.splits.Sides.{Sides}
use Rattle.tcel_rename.proofs.Finding.{all_statements, block_before}
use Rattle.tcel_rename.proofs.FindingSplits.{sides_both, sides_item, sides_choice}
use Rattle.tcel_rename.proofs.splits.+splits.Goals as goal

pub split_body-loop-left-preserved : goal.split_body-loop-left-preserved
split_body-loop-left-preserved t c =
    let xs = c.as_slice-stmts.result.now in
    let n = c.loop-left.left in
    let x = c.index-stmts-left.result in
    let most : n ≤ length xs = c.loop-left.invariant.within in
    let rest = block_of (map plain_stmt (drop n xs)) in
    let before = block_before xs n x c.loop-left-test.true most c.index-stmts-left.is in
    record {
      within = omega arith;
      found = λ vars whole are.
          let s = by_list vars whole c.args.kept.now.list in
          subst (λ b. FindsSides s (points b) c.args.splits.now c.both-sides.result c.split_stmt-here.new.splits) (sym before)
          (sides_both s (stmt_points (plain_stmt x)) (points rest) c.args.splits.now c.loop-left.splits c.split_stmt-here.new.splits c.split_stmt-here.result c.loop-left.sides c.both-sides.result (c.loop-left.invariant.found vars whole are)
          (c.split_stmt-here.ensures vars whole are) c.both-sides.ensures.inside c.both-sides.ensures.left);
    }

pub split_body-returns : goal.split_body-returns
split_body-returns t c = λ vars whole are.
    let all = all_statements c.args.body.now c.as_slice-stmts.result.now c.loop-left.left c.as_slice-stmts.ensures (omega arith) in
    subst (λ b. FindsSides (by_list vars whole c.args.kept.now.list) (points b) c.args.splits.now c.loop-left.sides c.loop-left.splits) all (c.loop-left.invariant.found vars whole are)

pub split_stmt-returns-in-Item : goal.split_stmt-returns-in-Item
unfolding core_stmt.roll-CoreStmt denote.Hole.Carrier.roll
split_stmt-returns-in-Item t c = λ vars whole are.
    let s = by_list vars whole c.args.kept.now.list in
    let sides : Sides = record { inside = c.has-held.result; left = not c.has-held.result || c.is_live.result } in
    subst (λ x. FindsSides s (stmt_points (plain_stmt x)) c.args.splits.now sides c.args.splits.now) (sym c.in-Item.is)
    (subst (λ x. FindsSides s (stmt_points x) c.args.splits.now sides c.args.splits.now) (sym (plain_stmt-item c.in-Item.id _))
    (sides_item s c.in-Item.id _ c.args.splits.now c.has-held.result c.is_live.result c.has-held.ensures (c.is_live.ensures vars whole c.args.kept.now.list are)))

pub split_stmt-returns-in-If : goal.split_stmt-returns-in-If
unfolding core_stmt.roll-CoreStmt denote.Hole.Carrier.roll
split_stmt-returns-in-If t c = λ vars whole are.
    let s = by_list vars whole c.args.kept.now.list in
    subst (λ x. FindsSides s (stmt_points (plain_stmt x)) c.args.splits.now c.both-sides.result c.mark.new.splits) (sym c.in-If.is)
    (subst (λ x. FindsSides s (stmt_points x) c.args.splits.now c.both-sides.result c.mark.new.splits) (sym (plain_stmt-choice c.in-If.id _ c.in-If.yes c.in-If.no))
    (sides_choice s c.in-If.id _ (plain_body c.in-If.yes) (plain_body c.in-If.no) c.args.splits.now c.split_body-second.new.splits c.split_body-first.new.splits c.mark.new.splits c.split_body-first.result c.split_body-second.result
    c.both-sides.result (c.split_body-second.ensures vars whole are) (c.split_body-first.ensures vars whole are) c.both-sides.ensures.inside c.both-sides.ensures.left c.mark.ensures.long c.mark.ensures.marked))

pub split_stmt-returns-in-Do : goal.split_stmt-returns-in-Do
unfolding core_stmt.roll-CoreStmt denote.Hole.Carrier.roll
split_stmt-returns-in-Do t c = λ vars whole are.
    let s = by_list vars whole c.args.kept.now.list in
    subst (λ x. FindsSides s (stmt_points (plain_stmt x)) c.args.splits.now c.split_body.result c.split_body.new.splits) (sym c.in-Do.is)
    (subst (λ x. FindsSides s (stmt_points x) c.args.splits.now c.split_body.result c.split_body.new.splits) (sym (plain_stmt-timed c.in-Do.id c.in-Do.after c.in-Do.before c.in-Do.within c.in-Do.body)) (c.split_body.ensures vars whole are))
