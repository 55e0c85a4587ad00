use Rattle.std.proofs.Common.{◌∷◌, refl, ◌∙◌}
use Rattle.tcel_grammar.specs.Machine.{more_decls}
use Rattle.tcel_parse.proofs.Heads.{placed_token}
use Rattle.tcel_parse.proofs.Reaches.{at_exit}
use Rattle.tcel_parse.proofs.parser.Parser.state.Goals as goal

pub returns-in_err-take_word-clause-run : goal.returns-in_err-take_word-clause-run
returns-in_err-take_word-clause-run c =
    λ k. at_exit c.from_residual.result _ c.from_residual.ensures.1 _ _ _ _ (refl) (c.in_err-take_word.ensures.run more_decls _ refl k)

pub returns-in_err-decl-clause-run : goal.returns-in_err-decl-clause-run
returns-in_err-decl-clause-run c =
    λ k. at_exit c.from_residual-in_err-decl.result _ c.from_residual-in_err-decl.ensures.1 _ _ _ _ (c.in_ok-take_word.ensures.run more_decls _ refl k) (c.in_err-decl.ensures.run (more_decls ∷ k))

pub returns-clause-tree : goal.returns-clause-tree
returns-clause-tree c =
    c.in_ok-decl.ensures.tree _ (placed_token c.in_ok-take_word.ensures.tree)

pub returns-clause-run : goal.returns-clause-run
returns-clause-run c =
    λ k. c.in_ok-take_word.ensures.run more_decls _ refl k ∙ c.in_ok-decl.ensures.run (more_decls ∷ k)
