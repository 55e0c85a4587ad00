use Rattle.std.proofs.Common.{◌∷◌, refl, ◌∙◌}
use Rattle.tcel_grammar.specs.Statements.{unsaid, said}
use Rattle.tcel_grammar.specs.Machine.{any_number, behind_after, last_clause}
use Rattle.tcel_parse.specs.Reading.{left}
use Rattle.tcel_parse.proofs.Heads.{placed_token}
use Rattle.tcel_parse.proofs.Options.{no_before}
use Rattle.tcel_parse.proofs.Reaches.{at_exit, reach_same}
use Rattle.tcel_parse.proofs.parser.Parser.before.Goals as goal

pub returns-then-not-sees_word-clause-tree : goal.returns-then-not-sees_word-clause-tree
returns-then-not-sees_word-clause-tree c =
    unsaid

pub returns-then-not-sees_word-clause-run : goal.returns-then-not-sees_word-clause-run
returns-then-not-sees_word-clause-run c =
    λ k. reach_same c.args.self.now behind_after last_clause k (no_before (left c.args.self.now) (cc))

pub returns-in_err-take_word-clause-run : goal.returns-in_err-take_word-clause-run
returns-in_err-take_word-clause-run c =
    λ k. at_exit c.from_residual.result _ c.from_residual.ensures.1 _ _ _ _ (refl) (c.in_err-take_word.ensures.run behind_after _ refl k)

pub returns-in_err-expect_word-clause-run : goal.returns-in_err-expect_word-clause-run
returns-in_err-expect_word-clause-run c =
    λ k. at_exit c.from_residual-in_err-expect_word.result _ c.from_residual-in_err-expect_word.ensures.1 _ _ _ _ (c.in_ok-take_word.ensures.run behind_after _ refl k) (c.in_err-expect_word.ensures.run (any_number ∷ last_clause ∷ k))

pub returns-in_err-bound-clause-run : goal.returns-in_err-bound-clause-run
returns-in_err-bound-clause-run c =
    λ k. at_exit c.from_residual-in_err-bound.result _ c.from_residual-in_err-bound.ensures.1 _ _ _ _ (c.in_ok-take_word.ensures.run behind_after _ refl k ∙ c.in_ok-expect_word.ensures.run (any_number ∷ last_clause ∷ k)) (c.in_err-bound.ensures.run (last_clause ∷ k))

pub returns-clause-tree : goal.returns-clause-tree
returns-clause-tree c =
    said (placed_token c.in_ok-take_word.ensures.tree) c.in_ok-expect_word.ensures.tree c.in_ok-bound.ensures.tree

pub returns-clause-run : goal.returns-clause-run
returns-clause-run c =
    λ k. c.in_ok-take_word.ensures.run behind_after _ refl k ∙ c.in_ok-expect_word.ensures.run (any_number ∷ last_clause ∷ k) ∙ c.in_ok-bound.ensures.run (last_clause ∷ k)
