use Rattle.std.proofs.Common.{◌∷◌, refl, ◌∙◌}
use Rattle.tcel_token.specs.declared.sign.Sign.{Sign}
use Rattle.tcel_grammar.specs.Programs.{an_output}
use Rattle.tcel_grammar.specs.Machine.{this_sign, more_decls}
use Rattle.tcel_parse.proofs.Heads.{placed_token}
use Rattle.tcel_parse.proofs.Reaches.{at_exit}
use Rattle.tcel_parse.proofs.parser.Parser.output.Goals as goal

pub returns-in_err-take_word-clause-run : goal.returns-in_err-take_word-clause-run
returns-in_err-take_word-clause-run c =
    λ k. at_exit c.from_residual.result _ c.from_residual.ensures.1 _ _ _ _ (refl) (c.in_err-take_word.ensures.run more_decls _ refl k)

pub returns-in_err-name-clause-run : goal.returns-in_err-name-clause-run
returns-in_err-name-clause-run c =
    λ k. at_exit c.from_residual-in_err-name.result _ c.from_residual-in_err-name.ensures.1 _ _ _ _ (c.in_ok-take_word.ensures.run more_decls _ refl k) (c.in_err-name.ensures.run (this_sign Sign.Semicolon ∷ more_decls ∷ k))

pub returns-in_err-expect_sign-clause-run : goal.returns-in_err-expect_sign-clause-run
returns-in_err-expect_sign-clause-run c =
    λ k. at_exit c.from_residual-in_err-expect_sign.result _ c.from_residual-in_err-expect_sign.ensures.1 _ _ _ _ (c.in_ok-take_word.ensures.run more_decls _ refl k ∙ c.in_ok-name.ensures.run (this_sign Sign.Semicolon ∷ more_decls ∷ k)) (c.in_err-expect_sign.ensures.run (more_decls ∷ k))

pub returns-clause-tree : goal.returns-clause-tree
returns-clause-tree c =
    an_output (placed_token c.in_ok-take_word.ensures.tree) c.in_ok-name.ensures.tree c.in_ok-expect_sign.ensures.tree

pub returns-clause-run : goal.returns-clause-run
returns-clause-run c =
    λ k. c.in_ok-take_word.ensures.run more_decls _ refl k ∙ c.in_ok-name.ensures.run (this_sign Sign.Semicolon ∷ more_decls ∷ k) ∙ c.in_ok-expect_sign.ensures.run (more_decls ∷ k)
