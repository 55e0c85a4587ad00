use Rattle.std.proofs.Common.{◌∷◌, refl, ◌∙◌}
use Rattle.tcel_token.specs.declared.sign.Sign.{Sign}
use Rattle.tcel_grammar.specs.Programs.{an_int, a_bool}
use Rattle.tcel_grammar.specs.Machine.{this_sign, behind_keeper, behind_int, behind_bool}
use Rattle.tcel_parse.specs.Reading.{left}
use Rattle.tcel_parse.proofs.Heads.{stop_here, placed_token}
use Rattle.tcel_parse.proofs.Options.{no_type}
use Rattle.tcel_parse.proofs.Reaches.{at_exit}
use Rattle.tcel_parse.proofs.parser.Parser.kept.Goals as goal

pub returns-in_err-take_word-clause-run : goal.returns-in_err-take_word-clause-run
returns-in_err-take_word-clause-run c =
    λ k. at_exit c.from_residual.result _ c.from_residual.ensures.1 _ _ _ _ (refl) (c.in_err-take_word.ensures.run (behind_keeper c.args.state) _ refl k)

pub returns-in_err-name-clause-run : goal.returns-in_err-name-clause-run
returns-in_err-name-clause-run c =
    λ k. at_exit c.from_residual-in_err-name.result _ c.from_residual-in_err-name.ensures.1 _ _ _ _ (c.in_ok-take_word.ensures.run (behind_keeper c.args.state) _ refl k) (c.in_err-name.ensures.run (behind_int c.args.state ∷ this_sign Sign.Semicolon ∷ k))

pub returns-in_err-kind-clause-run : goal.returns-in_err-kind-clause-run
returns-in_err-kind-clause-run c =
    λ k. at_exit c.from_residual-in_err-kind.result _ c.from_residual-in_err-kind.ensures.1 _ _ _ _ (c.in_ok-take_word.ensures.run (behind_keeper c.args.state) _ refl k ∙ c.in_ok-name.ensures.run (behind_int c.args.state ∷ this_sign Sign.Semicolon ∷ k)) (c.in_err-kind.ensures.run (this_sign Sign.Semicolon ∷ k))

pub returns-in_err-expect_sign-clause-run : goal.returns-in_err-expect_sign-clause-run
returns-in_err-expect_sign-clause-run c =
    λ k. at_exit c.from_residual-in_err-expect_sign.result _ c.from_residual-in_err-expect_sign.ensures.1 _ _ _ _ (c.in_ok-take_word.ensures.run (behind_keeper c.args.state) _ refl k ∙ c.in_ok-name.ensures.run (behind_int c.args.state ∷ this_sign Sign.Semicolon ∷ k) ∙ c.in_ok-kind.ensures.run (this_sign Sign.Semicolon ∷ k)) (c.in_err-expect_sign.ensures.run k)

pub returns-in_ok-expect_sign-clause-tree : goal.returns-in_ok-expect_sign-clause-tree
returns-in_ok-expect_sign-clause-tree c =
    λ before d. an_int d (placed_token c.in_ok-take_word.ensures.tree) c.in_ok-name.ensures.tree c.in_ok-kind.ensures.tree c.in_ok-expect_sign.ensures.tree

pub returns-in_ok-expect_sign-clause-run : goal.returns-in_ok-expect_sign-clause-run
returns-in_ok-expect_sign-clause-run c =
    λ k. c.in_ok-take_word.ensures.run (behind_keeper c.args.state) _ refl k ∙ c.in_ok-name.ensures.run (behind_int c.args.state ∷ this_sign Sign.Semicolon ∷ k) ∙ c.in_ok-kind.ensures.run (this_sign Sign.Semicolon ∷ k) ∙ c.in_ok-expect_sign.ensures.run k

pub returns-in_err-take_word-2-clause-run : goal.returns-in_err-take_word-2-clause-run
returns-in_err-take_word-2-clause-run c =
    λ k. at_exit c.from_residual-in_err-take_word-2.result _ c.from_residual-in_err-take_word-2.ensures.1 _ _ _ _ (refl) (c.in_err-take_word-2.ensures.run (behind_keeper c.args.state) _ refl k)

pub returns-in_err-flag-clause-run : goal.returns-in_err-flag-clause-run
returns-in_err-flag-clause-run c =
    λ k. at_exit c.from_residual-in_err-flag.result _ c.from_residual-in_err-flag.ensures.1 _ _ _ _ (c.in_ok-take_word-2.ensures.run (behind_keeper c.args.state) _ refl k) (c.in_err-flag.ensures.run (behind_bool c.args.state ∷ this_sign Sign.Semicolon ∷ k))

pub returns-in_err-truth-clause-run : goal.returns-in_err-truth-clause-run
returns-in_err-truth-clause-run c =
    λ k. at_exit c.from_residual-in_err-truth.result _ c.from_residual-in_err-truth.ensures.1 _ _ _ _ (c.in_ok-take_word-2.ensures.run (behind_keeper c.args.state) _ refl k ∙ c.in_ok-flag.ensures.run (behind_bool c.args.state ∷ this_sign Sign.Semicolon ∷ k)) (c.in_err-truth.ensures.run (this_sign Sign.Semicolon ∷ k))

pub returns-in_err-expect_sign-2-clause-run : goal.returns-in_err-expect_sign-2-clause-run
returns-in_err-expect_sign-2-clause-run c =
    λ k. at_exit c.from_residual-in_err-expect_sign-2.result _ c.from_residual-in_err-expect_sign-2.ensures.1 _ _ _ _ (c.in_ok-take_word-2.ensures.run (behind_keeper c.args.state) _ refl k ∙ c.in_ok-flag.ensures.run (behind_bool c.args.state ∷ this_sign Sign.Semicolon ∷ k) ∙ c.in_ok-truth.ensures.run (this_sign Sign.Semicolon ∷ k)) (c.in_err-expect_sign-2.ensures.run k)

pub returns-in_ok-expect_sign-2-clause-tree : goal.returns-in_ok-expect_sign-2-clause-tree
returns-in_ok-expect_sign-2-clause-tree c =
    λ before d. a_bool d (placed_token c.in_ok-take_word-2.ensures.tree) c.in_ok-flag.ensures.tree c.in_ok-truth.ensures.tree c.in_ok-expect_sign-2.ensures.tree

pub returns-in_ok-expect_sign-2-clause-run : goal.returns-in_ok-expect_sign-2-clause-run
returns-in_ok-expect_sign-2-clause-run c =
    λ k. c.in_ok-take_word-2.ensures.run (behind_keeper c.args.state) _ refl k ∙ c.in_ok-flag.ensures.run (behind_bool c.args.state ∷ this_sign Sign.Semicolon ∷ k) ∙ c.in_ok-truth.ensures.run (this_sign Sign.Semicolon ∷ k) ∙ c.in_ok-expect_sign-2.ensures.run k

pub returns-else-sees_word-2-clause-run : goal.returns-else-sees_word-2-clause-run
returns-else-sees_word-2-clause-run c =
    λ k. stop_here c.args.self.now (behind_keeper c.args.state) k (no_type c.args.state (left c.args.self.now) (cc) (cc))
