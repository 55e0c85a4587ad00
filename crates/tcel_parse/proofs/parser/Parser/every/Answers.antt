use Rattle.std.proofs.Common.{◌∷◌, refl, ◌∙◌}
use Rattle.tcel_token.specs.declared.sign.Sign.{Sign}
use Rattle.tcel_grammar.specs.Programs.{every}
use Rattle.tcel_grammar.specs.Machine.{this_sign, one_block, last_clause, more_decls}
use Rattle.tcel_parse.proofs.Heads.{placed_token}
use Rattle.tcel_parse.proofs.Reaches.{at_exit}
use Rattle.tcel_parse.proofs.parser.Parser.every.Goals as goal

pub returns-in_err-take_word-clause-run : goal.returns-in_err-take_word-clause-run
returns-in_err-take_word-clause-run c =
    λ k. at_exit c.from_residual.result _ c.from_residual.ensures.1 _ _ _ _ (refl) (c.in_err-take_word.ensures.run more_decls _ refl k)

pub returns-in_err-period-clause-run : goal.returns-in_err-period-clause-run
returns-in_err-period-clause-run c =
    λ k. at_exit c.from_residual-in_err-period.result _ c.from_residual-in_err-period.ensures.1 _ _ _ _ (c.in_ok-take_word.ensures.run more_decls _ refl k) (c.in_err-period.ensures.run (last_clause ∷ one_block ∷ this_sign Sign.RightBrace ∷ k))

pub returns-in_err-finish-clause-run : goal.returns-in_err-finish-clause-run
returns-in_err-finish-clause-run c =
    λ k. at_exit c.from_residual-in_err-finish.result _ c.from_residual-in_err-finish.ensures.1 _ _ _ _ (c.in_ok-take_word.ensures.run more_decls _ refl k ∙ c.in_ok-period.ensures.run (last_clause ∷ one_block ∷ this_sign Sign.RightBrace ∷ k)) (c.in_err-finish.ensures.run (one_block ∷ this_sign Sign.RightBrace ∷ k))

pub returns-in_err-body-clause-run : goal.returns-in_err-body-clause-run
returns-in_err-body-clause-run c =
    λ k. at_exit c.from_residual-in_err-body.result _ c.from_residual-in_err-body.ensures.1 _ _ _ _ (c.in_ok-take_word.ensures.run more_decls _ refl k ∙ c.in_ok-period.ensures.run (last_clause ∷ one_block ∷ this_sign Sign.RightBrace ∷ k) ∙ c.in_ok-finish.ensures.run (one_block ∷ this_sign Sign.RightBrace ∷ k)) (c.in_err-body.ensures.run (this_sign Sign.RightBrace ∷ k))

pub returns-clause-tree : goal.returns-clause-tree
returns-clause-tree c =
    every (placed_token c.in_ok-take_word.ensures.tree) c.in_ok-period.ensures.tree c.in_ok-finish.ensures.tree c.in_ok-body.ensures.tree

pub returns-clause-run : goal.returns-clause-run
returns-clause-run c =
    λ k. c.in_ok-take_word.ensures.run more_decls _ refl k ∙ c.in_ok-period.ensures.run (last_clause ∷ one_block ∷ this_sign Sign.RightBrace ∷ k) ∙ c.in_ok-finish.ensures.run (one_block ∷ this_sign Sign.RightBrace ∷ k) ∙ c.in_ok-body.ensures.run (this_sign Sign.RightBrace ∷ k)
