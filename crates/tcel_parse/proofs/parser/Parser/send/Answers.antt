use Rattle.std.proofs.Common.{false, ◌∷◌, refl, ◌∙◌}
use Rattle.tcel_token.specs.declared.keyword.Keyword.{Keyword}
use Rattle.tcel_token.specs.declared.sign.Sign.{Sign}
use Rattle.tcel_grammar.specs.Statements.{sent}
use Rattle.tcel_grammar.specs.Machine.{this_word, this_sign, any_name, more_stmts}
use Rattle.tcel_parse.proofs.Reaches.{at_exit}
use Rattle.tcel_parse.proofs.parser.Parser.send.Goals as goal

pub returns-in_err-at-clause-run : goal.returns-in_err-at-clause-run
returns-in_err-at-clause-run c =
    λ k. at_exit c.from_residual.result _ c.from_residual.ensures.1 _ _ _ _ (refl) (c.in_err-at.ensures.run (more_stmts false) _ refl k)

pub returns-in_err-value-clause-run : goal.returns-in_err-value-clause-run
returns-in_err-value-clause-run c =
    λ k. at_exit c.from_residual-in_err-value.result _ c.from_residual-in_err-value.ensures.1 _ _ _ _ (c.in_ok-at.ensures.run (more_stmts false) _ refl k) (c.in_err-value.ensures.run (this_word Keyword.To ∷ any_name ∷ this_sign Sign.Semicolon ∷ more_stmts false ∷ k))

pub returns-in_err-expect_word-clause-run : goal.returns-in_err-expect_word-clause-run
returns-in_err-expect_word-clause-run c =
    λ k. at_exit c.from_residual-in_err-expect_word.result _ c.from_residual-in_err-expect_word.ensures.1 _ _ _ _ (c.in_ok-at.ensures.run (more_stmts false) _ refl k ∙ c.in_ok-value.ensures.run (this_word Keyword.To ∷ any_name ∷ this_sign Sign.Semicolon ∷ more_stmts false ∷ k)) (c.in_err-expect_word.ensures.run (any_name ∷ this_sign Sign.Semicolon ∷ more_stmts false ∷ k))

pub returns-in_err-port-clause-run : goal.returns-in_err-port-clause-run
returns-in_err-port-clause-run c =
    λ k. at_exit c.from_residual-in_err-port.result _ c.from_residual-in_err-port.ensures.1 _ _ _ _ (c.in_ok-at.ensures.run (more_stmts false) _ refl k ∙ c.in_ok-value.ensures.run (this_word Keyword.To ∷ any_name ∷ this_sign Sign.Semicolon ∷ more_stmts false ∷ k) ∙ c.in_ok-expect_word.ensures.run (any_name ∷ this_sign Sign.Semicolon ∷ more_stmts false ∷ k)) (c.in_err-port.ensures.run (this_sign Sign.Semicolon ∷ more_stmts false ∷ k))

pub returns-in_err-expect_sign-clause-run : goal.returns-in_err-expect_sign-clause-run
returns-in_err-expect_sign-clause-run c =
    λ k. at_exit c.from_residual-in_err-expect_sign.result _ c.from_residual-in_err-expect_sign.ensures.1 _ _ _ _ (c.in_ok-at.ensures.run (more_stmts false) _ refl k ∙ c.in_ok-value.ensures.run (this_word Keyword.To ∷ any_name ∷ this_sign Sign.Semicolon ∷ more_stmts false ∷ k) ∙ c.in_ok-expect_word.ensures.run (any_name ∷ this_sign Sign.Semicolon ∷ more_stmts false ∷ k) ∙ c.in_ok-port.ensures.run (this_sign Sign.Semicolon ∷ more_stmts false ∷ k)) (c.in_err-expect_sign.ensures.run (more_stmts false ∷ k))

pub returns-clause-tree : goal.returns-clause-tree
returns-clause-tree c =
    rw c.send_node.ensures (sent c.in_ok-at.ensures.tree c.in_ok-value.ensures.tree c.in_ok-expect_word.ensures.tree c.in_ok-port.ensures.tree c.in_ok-expect_sign.ensures.tree)

pub returns-clause-run : goal.returns-clause-run
returns-clause-run c =
    λ k. c.in_ok-at.ensures.run (more_stmts false) _ refl k ∙ c.in_ok-value.ensures.run (this_word Keyword.To ∷ any_name ∷ this_sign Sign.Semicolon ∷ more_stmts false ∷ k) ∙ c.in_ok-expect_word.ensures.run (any_name ∷ this_sign Sign.Semicolon ∷ more_stmts false ∷ k) ∙ c.in_ok-port.ensures.run (this_sign Sign.Semicolon ∷ more_stmts false ∷ k) ∙ c.in_ok-expect_sign.ensures.run (more_stmts false ∷ k)
