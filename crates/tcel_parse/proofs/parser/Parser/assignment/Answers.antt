use Rattle.std.proofs.Common.{false, ◌∷◌, refl, ◌∙◌}
use Rattle.tcel_token.specs.declared.sign.Sign.{Sign}
use Rattle.tcel_grammar.specs.Statements.{assigned, assigned_at}
use Rattle.tcel_grammar.specs.Machine.{this_sign, more_stmts, behind_target, expr}
use Rattle.tcel_parse.specs.Reading.{left}
use Rattle.tcel_parse.proofs.Heads.{stop_here, placed_token}
use Rattle.tcel_parse.proofs.Options.{no_target}
use Rattle.tcel_parse.proofs.Reaches.{at_exit, stopped_at}
use Rattle.tcel_parse.proofs.parser.Parser.assignment.Goals as goal

pub returns-in_err-target-clause-run : goal.returns-in_err-target-clause-run
returns-in_err-target-clause-run c =
    λ k. at_exit c.from_residual.result _ c.from_residual.ensures.1 _ _ _ _ (refl) (c.in_err-target.ensures.run (more_stmts false) _ refl k)

pub returns-in_err-take_sign-clause-run : goal.returns-in_err-take_sign-clause-run
returns-in_err-take_sign-clause-run c =
    λ k. at_exit c.from_residual-in_err-take_sign.result _ c.from_residual-in_err-take_sign.ensures.1 _ _ _ _ (c.in_ok-target.ensures.run (more_stmts false) _ refl k) (c.in_err-take_sign.ensures.run behind_target _ refl (more_stmts false ∷ k))

pub returns-in_err-value-clause-run : goal.returns-in_err-value-clause-run
returns-in_err-value-clause-run c =
    λ k. at_exit c.from_residual-in_err-value.result _ c.from_residual-in_err-value.ensures.1 _ _ _ _ (c.in_ok-target.ensures.run (more_stmts false) _ refl k ∙ c.in_ok-take_sign.ensures.run behind_target _ refl (more_stmts false ∷ k)) (c.in_err-value.ensures.run (this_sign Sign.Semicolon ∷ more_stmts false ∷ k))

pub returns-in_err-expect_sign-clause-run : goal.returns-in_err-expect_sign-clause-run
returns-in_err-expect_sign-clause-run c =
    λ k. at_exit c.from_residual-in_err-expect_sign.result _ c.from_residual-in_err-expect_sign.ensures.1 _ _ _ _ (c.in_ok-target.ensures.run (more_stmts false) _ refl k ∙ c.in_ok-take_sign.ensures.run behind_target _ refl (more_stmts false ∷ k) ∙ c.in_ok-value.ensures.run (this_sign Sign.Semicolon ∷ more_stmts false ∷ k)) (c.in_err-expect_sign.ensures.run (more_stmts false ∷ k))

pub returns-in_ok-expect_sign-clause-tree : goal.returns-in_ok-expect_sign-clause-tree
returns-in_ok-expect_sign-clause-tree c =
    rw c.assign_node.ensures (assigned c.in_ok-target.ensures.tree (placed_token c.in_ok-take_sign.ensures.tree) c.in_ok-value.ensures.tree c.in_ok-expect_sign.ensures.tree)

pub returns-in_ok-expect_sign-clause-run : goal.returns-in_ok-expect_sign-clause-run
returns-in_ok-expect_sign-clause-run c =
    λ k. c.in_ok-target.ensures.run (more_stmts false) _ refl k ∙ c.in_ok-take_sign.ensures.run behind_target _ refl (more_stmts false ∷ k) ∙ c.in_ok-value.ensures.run (this_sign Sign.Semicolon ∷ more_stmts false ∷ k) ∙ c.in_ok-expect_sign.ensures.run (more_stmts false ∷ k)

pub returns-in_err-take_sign-2-clause-run : goal.returns-in_err-take_sign-2-clause-run
returns-in_err-take_sign-2-clause-run c =
    λ k. at_exit c.from_residual-in_err-take_sign-2.result _ c.from_residual-in_err-take_sign-2.ensures.1 _ _ _ _ (c.in_ok-target.ensures.run (more_stmts false) _ refl k) (c.in_err-take_sign-2.ensures.run behind_target _ refl (more_stmts false ∷ k))

pub returns-in_err-index-clause-run : goal.returns-in_err-index-clause-run
returns-in_err-index-clause-run c =
    λ k. at_exit c.from_residual-in_err-index.result _ c.from_residual-in_err-index.ensures.1 _ _ _ _ (c.in_ok-target.ensures.run (more_stmts false) _ refl k ∙ c.in_ok-take_sign-2.ensures.run behind_target _ refl (more_stmts false ∷ k)) (c.in_err-index.ensures.run (this_sign Sign.RightSquare ∷ this_sign Sign.Becomes ∷ expr ∷ this_sign Sign.Semicolon ∷ more_stmts false ∷ k))

pub returns-in_err-expect_sign-2-clause-run : goal.returns-in_err-expect_sign-2-clause-run
returns-in_err-expect_sign-2-clause-run c =
    λ k. at_exit c.from_residual-in_err-expect_sign-2.result _ c.from_residual-in_err-expect_sign-2.ensures.1 _ _ _ _ (c.in_ok-target.ensures.run (more_stmts false) _ refl k ∙ c.in_ok-take_sign-2.ensures.run behind_target _ refl (more_stmts false ∷ k) ∙ c.in_ok-index.ensures.run (this_sign Sign.RightSquare ∷ this_sign Sign.Becomes ∷ expr ∷ this_sign Sign.Semicolon ∷ more_stmts false ∷ k)) (c.in_err-expect_sign-2.ensures.run (this_sign Sign.Becomes ∷ expr ∷ this_sign Sign.Semicolon ∷ more_stmts false ∷ k))

pub returns-in_err-expect_sign-3-clause-run : goal.returns-in_err-expect_sign-3-clause-run
returns-in_err-expect_sign-3-clause-run c =
    λ k. at_exit c.from_residual-in_err-expect_sign-3.result _ c.from_residual-in_err-expect_sign-3.ensures.1 _ _ _ _ (c.in_ok-target.ensures.run (more_stmts false) _ refl k ∙ c.in_ok-take_sign-2.ensures.run behind_target _ refl (more_stmts false ∷ k) ∙ c.in_ok-index.ensures.run (this_sign Sign.RightSquare ∷ this_sign Sign.Becomes ∷ expr ∷ this_sign Sign.Semicolon ∷ more_stmts false ∷ k) ∙ c.in_ok-expect_sign-2.ensures.run (this_sign Sign.Becomes ∷ expr ∷ this_sign Sign.Semicolon ∷ more_stmts false ∷ k)) (c.in_err-expect_sign-3.ensures.run (expr ∷ this_sign Sign.Semicolon ∷ more_stmts false ∷ k))

pub returns-in_err-stored-clause-run : goal.returns-in_err-stored-clause-run
returns-in_err-stored-clause-run c =
    λ k. at_exit c.from_residual-in_err-stored.result _ c.from_residual-in_err-stored.ensures.1 _ _ _ _ (c.in_ok-target.ensures.run (more_stmts false) _ refl k ∙ c.in_ok-take_sign-2.ensures.run behind_target _ refl (more_stmts false ∷ k) ∙ c.in_ok-index.ensures.run (this_sign Sign.RightSquare ∷ this_sign Sign.Becomes ∷ expr ∷ this_sign Sign.Semicolon ∷ more_stmts false ∷ k) ∙ c.in_ok-expect_sign-2.ensures.run (this_sign Sign.Becomes ∷ expr ∷ this_sign Sign.Semicolon ∷ more_stmts false ∷ k) ∙ c.in_ok-expect_sign-3.ensures.run (expr ∷ this_sign Sign.Semicolon ∷ more_stmts false ∷ k)) (c.in_err-stored.ensures.run (this_sign Sign.Semicolon ∷ more_stmts false ∷ k))

pub returns-in_err-expect_sign-4-clause-run : goal.returns-in_err-expect_sign-4-clause-run
returns-in_err-expect_sign-4-clause-run c =
    λ k. at_exit c.from_residual-in_err-expect_sign-4.result _ c.from_residual-in_err-expect_sign-4.ensures.1 _ _ _ _ (c.in_ok-target.ensures.run (more_stmts false) _ refl k ∙ c.in_ok-take_sign-2.ensures.run behind_target _ refl (more_stmts false ∷ k) ∙ c.in_ok-index.ensures.run (this_sign Sign.RightSquare ∷ this_sign Sign.Becomes ∷ expr ∷ this_sign Sign.Semicolon ∷ more_stmts false ∷ k) ∙ c.in_ok-expect_sign-2.ensures.run (this_sign Sign.Becomes ∷ expr ∷ this_sign Sign.Semicolon ∷ more_stmts false ∷ k) ∙ c.in_ok-expect_sign-3.ensures.run (expr ∷ this_sign Sign.Semicolon ∷ more_stmts false ∷ k) ∙ c.in_ok-stored.ensures.run (this_sign Sign.Semicolon ∷ more_stmts false ∷ k)) (c.in_err-expect_sign-4.ensures.run (more_stmts false ∷ k))

pub returns-in_ok-expect_sign-4-clause-tree : goal.returns-in_ok-expect_sign-4-clause-tree
returns-in_ok-expect_sign-4-clause-tree c =
    rw c.assign_at_node.ensures (assigned_at c.in_ok-target.ensures.tree (placed_token c.in_ok-take_sign-2.ensures.tree) c.in_ok-index.ensures.tree c.in_ok-expect_sign-2.ensures.tree c.in_ok-expect_sign-3.ensures.tree c.in_ok-stored.ensures.tree c.in_ok-expect_sign-4.ensures.tree)

pub returns-in_ok-expect_sign-4-clause-run : goal.returns-in_ok-expect_sign-4-clause-run
returns-in_ok-expect_sign-4-clause-run c =
    λ k. c.in_ok-target.ensures.run (more_stmts false) _ refl k ∙ c.in_ok-take_sign-2.ensures.run behind_target _ refl (more_stmts false ∷ k) ∙ c.in_ok-index.ensures.run (this_sign Sign.RightSquare ∷ this_sign Sign.Becomes ∷ expr ∷ this_sign Sign.Semicolon ∷ more_stmts false ∷ k) ∙ c.in_ok-expect_sign-2.ensures.run (this_sign Sign.Becomes ∷ expr ∷ this_sign Sign.Semicolon ∷ more_stmts false ∷ k) ∙ c.in_ok-expect_sign-3.ensures.run (expr ∷ this_sign Sign.Semicolon ∷ more_stmts false ∷ k) ∙ c.in_ok-stored.ensures.run (this_sign Sign.Semicolon ∷ more_stmts false ∷ k) ∙ c.in_ok-expect_sign-4.ensures.run (more_stmts false ∷ k)

pub returns-else-sees_sign-2-clause-run : goal.returns-else-sees_sign-2-clause-run
returns-else-sees_sign-2-clause-run c =
    λ k. stopped_at _ _ _ _ (c.in_ok-target.ensures.run (more_stmts false) _ refl k) (stop_here c.take_name.new.self behind_target (more_stmts false ∷ k) (no_target (left c.take_name.new.self) (cc) (cc)))
