use Rattle.std.proofs.Common.{true, false, ◌∷◌, refl, ◌∙◌, arith}
use Rattle.tcel_token.specs.declared.keyword.Keyword.{Keyword}
use Rattle.tcel_token.specs.declared.sign.Sign.{Sign}
use Rattle.tcel_grammar.specs.Statements.{chosen, counted, repeated, done_in, no_else as without_else, with_else}
use Rattle.tcel_grammar.specs.Machine.{this_word, this_sign, any_number, more_stmts, one_block}
use Rattle.tcel_parse.specs.Reading.{left}
use Rattle.tcel_parse.proofs.Heads.{stop_here, placed_token}
use Rattle.tcel_parse.proofs.Lists.{opened_first, opened_push, closed}
use Rattle.tcel_parse.proofs.Options.{no_brace, no_else, no_statement}
use Rattle.tcel_parse.proofs.Reaches.{at_exit, memory_exit, reach_same}
use Rattle.tcel_parse.proofs.parser.Parser.+stmt.Goals as goal

pub block-returns-then-not-sees_sign-clause-run : goal.block-returns-then-not-sees_sign-clause-run
block-returns-then-not-sees_sign-clause-run t c =
    λ k. stop_here c.args.self.now one_block k (no_brace (left c.args.self.now) (cc))

pub block-returns-in_err-take_sign-clause-run : goal.block-returns-in_err-take_sign-clause-run
block-returns-in_err-take_sign-clause-run t c =
    λ k. at_exit c.from_residual.result _ c.from_residual.ensures.1 _ _ _ _ (refl) (c.in_err-take_sign.ensures.run one_block _ refl k)

pub block-statements-init : goal.block-statements-init
block-statements-init t c =
    record { tree = rw c.new-list.ensures (opened_first (placed_token c.in_ok-take_sign.ensures.tree)); run = λ k. c.in_ok-take_sign.ensures.run one_block _ refl k; onward = c.in_ok-take_sign.ensures.onward }

pub block-returns-in_err-stmt-clause-run : goal.block-returns-in_err-stmt-clause-run
block-returns-in_err-stmt-clause-run t c =
    λ k. at_exit c.from_residual-in_err-stmt.result _ c.from_residual-in_err-stmt.ensures.1 _ _ _ _ (c.statements.invariant.run k) (c.in_err-stmt.ensures.run k)

pub block-returns-in_err-push-clause-run : goal.block-returns-in_err-push-clause-run
block-returns-in_err-push-clause-run t c =
    λ k. memory_exit c.from_residual-in_err-push.result _ c.from_residual-in_err-push.ensures.1 refl _ _ _

pub block-statements-preserved : goal.block-statements-preserved
block-statements-preserved t c =
    record { tree = rw c.in_ok-push.ensures.ok (opened_push _ _ c.statements.invariant.tree c.in_ok-stmt.ensures.tree); run = λ k. c.statements.invariant.run k ∙ c.in_ok-stmt.ensures.run k; onward = omega (arith, c.statements.invariant.onward, c.in_ok-stmt.ensures.onward) }

pub block-returns-in_err-take_sign-2-clause-run : goal.block-returns-in_err-take_sign-2-clause-run
block-returns-in_err-take_sign-2-clause-run t c =
    λ k. at_exit c.from_residual-in_err-take_sign-2.result _ c.from_residual-in_err-take_sign-2.ensures.1 _ _ _ _ (c.statements.invariant.run k) (c.in_err-take_sign-2.ensures.run (more_stmts false) _ refl k)

pub block-returns-clause-tree : goal.block-returns-clause-tree
block-returns-clause-tree t c =
    closed c.statements.invariant.tree (placed_token c.in_ok-take_sign-2.ensures.tree)

pub block-returns-clause-run : goal.block-returns-clause-run
block-returns-clause-run t c =
    λ k. c.statements.invariant.run k ∙ c.in_ok-take_sign-2.ensures.run (more_stmts false) _ refl k

pub statement-returns-else-sees_word-6-clause-run : goal.statement-returns-else-sees_word-6-clause-run
statement-returns-else-sees_word-6-clause-run t c =
    λ k. stop_here c.args.self.now (more_stmts false) k (no_statement (left c.args.self.now) c.requires (cc) (cc) (cc) (cc) (cc) (cc) (cc))

pub choice-returns-in_err-at-clause-run : goal.choice-returns-in_err-at-clause-run
choice-returns-in_err-at-clause-run t c =
    λ k. at_exit c.from_residual.result _ c.from_residual.ensures.1 _ _ _ _ (refl) (c.in_err-at.ensures.run (more_stmts false) _ refl k)

pub choice-returns-in_err-test-clause-run : goal.choice-returns-in_err-test-clause-run
choice-returns-in_err-test-clause-run t c =
    λ k. at_exit c.from_residual-in_err-test.result _ c.from_residual-in_err-test.ensures.1 _ _ _ _ (c.in_ok-at.ensures.run (more_stmts false) _ refl k) (c.in_err-test.ensures.run (one_block ∷ more_stmts true ∷ k))

pub choice-returns-in_err-yes-clause-run : goal.choice-returns-in_err-yes-clause-run
choice-returns-in_err-yes-clause-run t c =
    λ k. at_exit c.from_residual-in_err-yes.result _ c.from_residual-in_err-yes.ensures.1 _ _ _ _ (c.in_ok-at.ensures.run (more_stmts false) _ refl k ∙ c.in_ok-test.ensures.run (one_block ∷ more_stmts true ∷ k)) (c.in_err-yes.ensures.run (more_stmts true ∷ k))

pub choice-returns-in_err-no-clause-run : goal.choice-returns-in_err-no-clause-run
choice-returns-in_err-no-clause-run t c =
    λ k. at_exit c.from_residual-in_err-no.result _ c.from_residual-in_err-no.ensures.1 _ _ _ _ (c.in_ok-at.ensures.run (more_stmts false) _ refl k ∙ c.in_ok-test.ensures.run (one_block ∷ more_stmts true ∷ k) ∙ c.in_ok-yes.ensures.run (more_stmts true ∷ k)) (c.in_err-no.ensures.run k)

pub choice-returns-clause-tree : goal.choice-returns-clause-tree
choice-returns-clause-tree t c =
    rw c.choice_node.ensures (chosen c.in_ok-at.ensures.tree c.in_ok-test.ensures.tree c.in_ok-yes.ensures.tree c.in_ok-no.ensures.tree)

pub choice-returns-clause-run : goal.choice-returns-clause-run
choice-returns-clause-run t c =
    λ k. c.in_ok-at.ensures.run (more_stmts false) _ refl k ∙ c.in_ok-test.ensures.run (one_block ∷ more_stmts true ∷ k) ∙ c.in_ok-yes.ensures.run (more_stmts true ∷ k) ∙ c.in_ok-no.ensures.run k

pub branch-returns-then-not-sees_word-clause-tree : goal.branch-returns-then-not-sees_word-clause-tree
branch-returns-then-not-sees_word-clause-tree t c =
    without_else

pub branch-returns-then-not-sees_word-clause-run : goal.branch-returns-then-not-sees_word-clause-run
branch-returns-then-not-sees_word-clause-run t c =
    λ k. reach_same c.args.self.now (more_stmts true) (more_stmts false) k (no_else (left c.args.self.now) (cc))

pub branch-returns-in_err-take_word-clause-run : goal.branch-returns-in_err-take_word-clause-run
branch-returns-in_err-take_word-clause-run t c =
    λ k. at_exit c.from_residual.result _ c.from_residual.ensures.1 _ _ _ _ (refl) (c.in_err-take_word.ensures.run (more_stmts true) _ refl k)

pub branch-returns-in_err-body-clause-run : goal.branch-returns-in_err-body-clause-run
branch-returns-in_err-body-clause-run t c =
    λ k. at_exit c.from_residual-in_err-body.result _ c.from_residual-in_err-body.ensures.1 _ _ _ _ (c.in_ok-take_word.ensures.run (more_stmts true) _ refl k) (c.in_err-body.ensures.run (more_stmts false ∷ k))

pub branch-returns-clause-tree : goal.branch-returns-clause-tree
branch-returns-clause-tree t c =
    with_else (placed_token c.in_ok-take_word.ensures.tree) c.in_ok-body.ensures.tree

pub branch-returns-clause-run : goal.branch-returns-clause-run
branch-returns-clause-run t c =
    λ k. c.in_ok-take_word.ensures.run (more_stmts true) _ refl k ∙ c.in_ok-body.ensures.run (more_stmts false ∷ k)

pub counted-returns-in_err-at-clause-run : goal.counted-returns-in_err-at-clause-run
counted-returns-in_err-at-clause-run t c =
    λ k. at_exit c.from_residual.result _ c.from_residual.ensures.1 _ _ _ _ (refl) (c.in_err-at.ensures.run (more_stmts false) _ refl k)

pub counted-returns-in_err-counter-clause-run : goal.counted-returns-in_err-counter-clause-run
counted-returns-in_err-counter-clause-run t c =
    λ k. at_exit c.from_residual-in_err-counter.result _ c.from_residual-in_err-counter.ensures.1 _ _ _ _ (c.in_ok-at.ensures.run (more_stmts false) _ refl k) (c.in_err-counter.ensures.run (this_sign Sign.Less ∷ any_number ∷ one_block ∷ more_stmts false ∷ k))

pub counted-returns-in_err-expect_sign-clause-run : goal.counted-returns-in_err-expect_sign-clause-run
counted-returns-in_err-expect_sign-clause-run t c =
    λ k. at_exit c.from_residual-in_err-expect_sign.result _ c.from_residual-in_err-expect_sign.ensures.1 _ _ _ _ (c.in_ok-at.ensures.run (more_stmts false) _ refl k ∙ c.in_ok-counter.ensures.run (this_sign Sign.Less ∷ any_number ∷ one_block ∷ more_stmts false ∷ k)) (c.in_err-expect_sign.ensures.run (any_number ∷ one_block ∷ more_stmts false ∷ k))

pub counted-returns-in_err-turns-clause-run : goal.counted-returns-in_err-turns-clause-run
counted-returns-in_err-turns-clause-run t c =
    λ k. at_exit c.from_residual-in_err-turns.result _ c.from_residual-in_err-turns.ensures.1 _ _ _ _ (c.in_ok-at.ensures.run (more_stmts false) _ refl k ∙ c.in_ok-counter.ensures.run (this_sign Sign.Less ∷ any_number ∷ one_block ∷ more_stmts false ∷ k) ∙ c.in_ok-expect_sign.ensures.run (any_number ∷ one_block ∷ more_stmts false ∷ k)) (c.in_err-turns.ensures.run (one_block ∷ more_stmts false ∷ k))

pub counted-returns-in_err-body-clause-run : goal.counted-returns-in_err-body-clause-run
counted-returns-in_err-body-clause-run t c =
    λ k. at_exit c.from_residual-in_err-body.result _ c.from_residual-in_err-body.ensures.1 _ _ _ _ (c.in_ok-at.ensures.run (more_stmts false) _ refl k ∙ c.in_ok-counter.ensures.run (this_sign Sign.Less ∷ any_number ∷ one_block ∷ more_stmts false ∷ k) ∙ c.in_ok-expect_sign.ensures.run (any_number ∷ one_block ∷ more_stmts false ∷ k) ∙ c.in_ok-turns.ensures.run (one_block ∷ more_stmts false ∷ k)) (c.in_err-body.ensures.run (more_stmts false ∷ k))

pub counted-returns-clause-tree : goal.counted-returns-clause-tree
counted-returns-clause-tree t c =
    rw c.for_node.ensures (counted c.in_ok-at.ensures.tree c.in_ok-counter.ensures.tree c.in_ok-expect_sign.ensures.tree c.in_ok-turns.ensures.tree c.in_ok-body.ensures.tree)

pub counted-returns-clause-run : goal.counted-returns-clause-run
counted-returns-clause-run t c =
    λ k. c.in_ok-at.ensures.run (more_stmts false) _ refl k ∙ c.in_ok-counter.ensures.run (this_sign Sign.Less ∷ any_number ∷ one_block ∷ more_stmts false ∷ k) ∙ c.in_ok-expect_sign.ensures.run (any_number ∷ one_block ∷ more_stmts false ∷ k) ∙ c.in_ok-turns.ensures.run (one_block ∷ more_stmts false ∷ k) ∙ c.in_ok-body.ensures.run (more_stmts false ∷ k)

pub repeated-returns-in_err-at-clause-run : goal.repeated-returns-in_err-at-clause-run
repeated-returns-in_err-at-clause-run t c =
    λ k. at_exit c.from_residual.result _ c.from_residual.ensures.1 _ _ _ _ (refl) (c.in_err-at.ensures.run (more_stmts false) _ refl k)

pub repeated-returns-in_err-test-clause-run : goal.repeated-returns-in_err-test-clause-run
repeated-returns-in_err-test-clause-run t c =
    λ k. at_exit c.from_residual-in_err-test.result _ c.from_residual-in_err-test.ensures.1 _ _ _ _ (c.in_ok-at.ensures.run (more_stmts false) _ refl k) (c.in_err-test.ensures.run (this_word Keyword.Limit ∷ any_number ∷ one_block ∷ more_stmts false ∷ k))

pub repeated-returns-in_err-expect_word-clause-run : goal.repeated-returns-in_err-expect_word-clause-run
repeated-returns-in_err-expect_word-clause-run t c =
    λ k. at_exit c.from_residual-in_err-expect_word.result _ c.from_residual-in_err-expect_word.ensures.1 _ _ _ _ (c.in_ok-at.ensures.run (more_stmts false) _ refl k ∙ c.in_ok-test.ensures.run (this_word Keyword.Limit ∷ any_number ∷ one_block ∷ more_stmts false ∷ k)) (c.in_err-expect_word.ensures.run (any_number ∷ one_block ∷ more_stmts false ∷ k))

pub repeated-returns-in_err-turns-clause-run : goal.repeated-returns-in_err-turns-clause-run
repeated-returns-in_err-turns-clause-run t c =
    λ k. at_exit c.from_residual-in_err-turns.result _ c.from_residual-in_err-turns.ensures.1 _ _ _ _ (c.in_ok-at.ensures.run (more_stmts false) _ refl k ∙ c.in_ok-test.ensures.run (this_word Keyword.Limit ∷ any_number ∷ one_block ∷ more_stmts false ∷ k) ∙ c.in_ok-expect_word.ensures.run (any_number ∷ one_block ∷ more_stmts false ∷ k)) (c.in_err-turns.ensures.run (one_block ∷ more_stmts false ∷ k))

pub repeated-returns-in_err-body-clause-run : goal.repeated-returns-in_err-body-clause-run
repeated-returns-in_err-body-clause-run t c =
    λ k. at_exit c.from_residual-in_err-body.result _ c.from_residual-in_err-body.ensures.1 _ _ _ _ (c.in_ok-at.ensures.run (more_stmts false) _ refl k ∙ c.in_ok-test.ensures.run (this_word Keyword.Limit ∷ any_number ∷ one_block ∷ more_stmts false ∷ k) ∙ c.in_ok-expect_word.ensures.run (any_number ∷ one_block ∷ more_stmts false ∷ k) ∙ c.in_ok-turns.ensures.run (one_block ∷ more_stmts false ∷ k)) (c.in_err-body.ensures.run (more_stmts false ∷ k))

pub repeated-returns-clause-tree : goal.repeated-returns-clause-tree
repeated-returns-clause-tree t c =
    rw c.while_node.ensures (repeated c.in_ok-at.ensures.tree c.in_ok-test.ensures.tree c.in_ok-expect_word.ensures.tree c.in_ok-turns.ensures.tree c.in_ok-body.ensures.tree)

pub repeated-returns-clause-run : goal.repeated-returns-clause-run
repeated-returns-clause-run t c =
    λ k. c.in_ok-at.ensures.run (more_stmts false) _ refl k ∙ c.in_ok-test.ensures.run (this_word Keyword.Limit ∷ any_number ∷ one_block ∷ more_stmts false ∷ k) ∙ c.in_ok-expect_word.ensures.run (any_number ∷ one_block ∷ more_stmts false ∷ k) ∙ c.in_ok-turns.ensures.run (one_block ∷ more_stmts false ∷ k) ∙ c.in_ok-body.ensures.run (more_stmts false ∷ k)

pub timed-returns-in_err-at-clause-run : goal.timed-returns-in_err-at-clause-run
timed-returns-in_err-at-clause-run t c =
    λ k. at_exit c.from_residual.result _ c.from_residual.ensures.1 _ _ _ _ (refl) (c.in_err-at.ensures.run (more_stmts false) _ refl k)

pub timed-returns-in_err-window-clause-run : goal.timed-returns-in_err-window-clause-run
timed-returns-in_err-window-clause-run t c =
    λ k. at_exit c.from_residual-in_err-window.result _ c.from_residual-in_err-window.ensures.1 _ _ _ _ (c.in_ok-at.ensures.run (more_stmts false) _ refl k) (c.in_err-window.ensures.run (one_block ∷ more_stmts false ∷ k))

pub timed-returns-in_err-body-clause-run : goal.timed-returns-in_err-body-clause-run
timed-returns-in_err-body-clause-run t c =
    λ k. at_exit c.from_residual-in_err-body.result _ c.from_residual-in_err-body.ensures.1 _ _ _ _ (c.in_ok-at.ensures.run (more_stmts false) _ refl k ∙ c.in_ok-window.ensures.run (one_block ∷ more_stmts false ∷ k)) (c.in_err-body.ensures.run (more_stmts false ∷ k))

pub timed-returns-clause-tree : goal.timed-returns-clause-tree
timed-returns-clause-tree t c =
    rw c.timed_node.ensures (done_in c.in_ok-at.ensures.tree c.in_ok-window.ensures.tree c.in_ok-body.ensures.tree)

pub timed-returns-clause-run : goal.timed-returns-clause-run
timed-returns-clause-run t c =
    λ k. c.in_ok-at.ensures.run (more_stmts false) _ refl k ∙ c.in_ok-window.ensures.run (one_block ∷ more_stmts false ∷ k) ∙ c.in_ok-body.ensures.run (more_stmts false ∷ k)
