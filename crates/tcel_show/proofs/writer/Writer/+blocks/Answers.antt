use Rattle.std.proofs.Common.{◌≡◌, List, take, subst, ◌∷◌}
use Rattle.std.proofs.lemmas.List.{take_all}
use Rattle.tcel_tree.specs.declared.stmt.Stmt.{Stmt}
use Rattle.tcel_tree.specs.Plain.{plain_block}
use Rattle.tcel_token.specs.declared.sign.Sign.{Sign}
use Rattle.tcel_show.specs.Canonical.{block_tokens, sign}
use Rattle.tcel_show.specs.Puts.{Puts}
use Rattle.tcel_show.proofs.Putting.{puts_then, if_put}
use Rattle.tcel_show.proofs.PutStmts.{put_more, put_if, put_if_else, put_for, put_while, put_timed}
use Rattle.tcel_show.proofs.writer.Writer.+blocks.Goals as goal

pub braced-loop-stmt-preserved : goal.braced-loop-stmt-preserved
braced-loop-stmt-preserved t c =
    put_more c.args.stmts.now c.loop-stmt.stmt-index c.stmt-item.result c.loop-stmt-test.true c.stmt-item.is c.loop-stmt.invariant c.in_ok-stmt.ensures

pub braced-returns : goal.braced-returns
braced-returns t c =
    let all : take c.loop-stmt.stmt-index c.args.stmts.now ≡ c.args.stmts.now = take_all c.loop-stmt.stmt-index c.args.stmts.now c.loop-stmt-test.false in
    let put =
    subst (λ (ss : List Stmt). Puts c.args.self.now c.loop-stmt.self (sign Sign.LeftBrace ∷ block_tokens (plain_block ss))) all c.loop-stmt.invariant
    in
    if_put c.sign-2.result (λ last. puts_then put last) c.sign-2.ensures

pub stmt-returns-in_ok-for_head-in-For : goal.stmt-returns-in_ok-for_head-in-For
stmt-returns-in_ok-for_head-in-For t c =
    put_for c.args.stmt.now c.in-For.name c.in-For.name_at c.in-For.turns c.in-For.body c.braced-in-For.new.self c.braced-in-For.result
    c.in-For.is c.as_slice-in-For.ensures c.in_ok-for_head-in-For.ensures c.braced-in-For.ensures

pub stmt-returns-in_ok-limit-in-While : goal.stmt-returns-in_ok-limit-in-While
stmt-returns-in_ok-limit-in-While t c =
    put_while c.args.stmt.now c.in-While.test c.in-While.turns c.in-While.body c.braced-in-While.new.self c.braced-in-While.result
    c.in-While.is c.as_slice-in-While.ensures c.in_ok-word-in-While.ensures c.in_ok-whole-in-While.ensures c.in_ok-limit-in-While.ensures
    c.braced-in-While.ensures

pub stmt-returns-in_ok-window-in-Do : goal.stmt-returns-in_ok-window-in-Do
stmt-returns-in_ok-window-in-Do t c =
    put_timed c.args.stmt.now c.in-Do.window c.in-Do.body c.braced-in-Do.new.self c.braced-in-Do.result
    c.in-Do.is c.as_slice-in-Do.ensures c.in_ok-word-in-Do.ensures c.in_ok-window-in-Do.ensures c.braced-in-Do.ensures

pub stmt-returns-in-None : goal.stmt-returns-in-None
stmt-returns-in-None t c =
    put_if c.args.stmt.now c.in-If.test c.in-If.yes c.in-If.no c.in-If.is c.in-None.is c.as_slice.ensures
    c.in_ok-word-in-If.ensures c.in_ok-whole-in-If.ensures c.in_ok-braced-in-If.ensures

pub stmt-returns-in_ok-word-in-Some : goal.stmt-returns-in_ok-word-in-Some
stmt-returns-in_ok-word-in-Some t c =
    put_if_else c.args.stmt.now c.in-If.test c.in-If.yes c.in-Some.other c.in-If.no c.braced-in-Some.new.self c.braced-in-Some.result
    c.in-If.is c.in-Some.is c.as_slice.ensures c.as_slice-in-Some.ensures
    c.in_ok-word-in-If.ensures c.in_ok-whole-in-If.ensures c.in_ok-braced-in-If.ensures c.in_ok-word-in-Some.ensures c.braced-in-Some.ensures
