use Rattle.std.proofs.Common.{◌≡◌, ◌+◌, ◌++◌, ◌<◌, length, get_or, map, drop, pos, replicate, subst}
use Rattle.tcel_core.specs.Plain.{block_of, plain_body, plain_stmt}
use Rattle.tcel_core.specs.declared.body.CoreStmt as core_stmt
use Rattle.tcel_core.proofs.Evaluation.{statements_next}
use Rattle.tcel_core.proofs.PlainLaws.{plain_stmt-choice}
use Rattle.tcel_link.specs.Receives.{receives, stmt_receives}
use Rattle.tcel_link.proofs.Words.{both_pushed, words_step}
use Rattle.tcel_link.proofs.receives.+words.Goals as goal

pub push_words-loop-stmt-preserved : goal.push_words-loop-stmt-preserved
push_words-loop-stmt-preserved t c =
    let list = c.args.body.now.list in
    let same = c.as_slice-stmt-items.ensures in
    let less = subst (λ l. c.loop-stmt.stmt-index < length l) same c.loop-stmt-test.true in
    let is = subst (λ l. c.stmt-item.result ≡ get_or l c.loop-stmt.stmt-index c.stmt-item.result) same c.stmt-item.is in
    let left = statements_next list c.loop-stmt.stmt-index c.stmt-item.result less is in
    let rest = block_of (map plain_stmt (drop (c.loop-stmt.stmt-index + 1) list)) in
    let all = c.args.words.now.items ++ replicate (receives (plain_body c.args.body.now) c.args.input) (pos 0) in
    let now = subst (λ b. c.loop-stmt.words.items ++ replicate (receives b c.args.input) (pos 0) ≡ all) left c.loop-stmt.invariant in
    words_step c.loop-stmt.words.items c.push_stmt_words.new.words.items all (stmt_receives (plain_stmt c.stmt-item.result) c.args.input) (receives rest c.args.input) c.in_ok-push_stmt_words.ensures now

pub push_stmt_words-returns-in_ok-push_words-in-If :
    goal.push_stmt_words-returns-in_ok-push_words-in-If
unfolding core_stmt.roll-CoreStmt denote.Hole.Carrier.roll
push_stmt_words-returns-in_ok-push_words-in-If t c =
    let form = plain_stmt-choice c.in-If.id c.in-If.test c.in-If.yes c.in-If.no in
    rw (c.in-If.is, form)
    (both_pushed c.push_words-in-If.result c.args.words.now.items c.push_words.new.words.items c.push_words-in-If.new.words.items
    (receives (plain_body c.in-If.yes) c.args.input) (receives (plain_body c.in-If.no) c.args.input) c.in_ok-push_words-in-If.ensures c.push_words-in-If.ensures)
