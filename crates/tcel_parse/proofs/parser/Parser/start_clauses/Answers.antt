use Rattle.std.proofs.Common.{◌∷◌, refl, ◌∙◌}
use Rattle.tcel_grammar.specs.Statements.{unsaid, said, window}
use Rattle.tcel_grammar.specs.Machine.{do_clauses, behind_start, behind_after, last_clause}
use Rattle.tcel_parse.specs.Reading.{left}
use Rattle.tcel_parse.proofs.Heads.{stop_here, placed_token}
use Rattle.tcel_parse.proofs.Options.{no_bound}
use Rattle.tcel_parse.proofs.Reaches.{at_exit, stopped_at}
use Rattle.tcel_parse.proofs.parser.Parser.start_clauses.Goals as goal

pub returns-in_err-take_word-clause-run : goal.returns-in_err-take_word-clause-run
returns-in_err-take_word-clause-run c =
    λ k. at_exit c.from_residual.result _ c.from_residual.ensures.1 _ _ _ _ (refl) (c.in_err-take_word.ensures.run do_clauses _ refl k)

pub returns-in_err-take_word-2-clause-run : goal.returns-in_err-take_word-2-clause-run
returns-in_err-take_word-2-clause-run c =
    λ k. at_exit c.from_residual-in_err-take_word-2.result _ c.from_residual-in_err-take_word-2.ensures.1 _ _ _ _ (c.in_ok-take_word.ensures.run do_clauses _ refl k) (c.in_err-take_word-2.ensures.run behind_start _ refl k)

pub returns-in_err-after-clause-run : goal.returns-in_err-after-clause-run
returns-in_err-after-clause-run c =
    λ k. at_exit c.from_residual-in_err-after.result _ c.from_residual-in_err-after.ensures.1 _ _ _ _ (c.in_ok-take_word.ensures.run do_clauses _ refl k ∙ c.in_ok-take_word-2.ensures.run behind_start _ refl k) (c.in_err-after.ensures.run (behind_after ∷ k))

pub returns-in_err-before-clause-run : goal.returns-in_err-before-clause-run
returns-in_err-before-clause-run c =
    λ k. at_exit c.from_residual-in_err-before.result _ c.from_residual-in_err-before.ensures.1 _ _ _ _ (c.in_ok-take_word.ensures.run do_clauses _ refl k ∙ c.in_ok-take_word-2.ensures.run behind_start _ refl k ∙ c.in_ok-after.ensures.run (behind_after ∷ k)) (c.in_err-before.ensures.run k)

pub returns-in_err-within-clause-run : goal.returns-in_err-within-clause-run
returns-in_err-within-clause-run c =
    λ k. at_exit c.from_residual-in_err-within.result _ c.from_residual-in_err-within.ensures.1 _ _ _ _ (c.in_ok-take_word.ensures.run do_clauses _ refl k ∙ c.in_ok-take_word-2.ensures.run behind_start _ refl k ∙ c.in_ok-after.ensures.run (behind_after ∷ k) ∙ c.in_ok-before.ensures.run k) (c.in_err-within.ensures.run k)

pub returns-in_ok-within-clause-tree : goal.returns-in_ok-within-clause-tree
returns-in_ok-within-clause-tree c =
    window (said (placed_token c.in_ok-take_word.ensures.tree) (placed_token c.in_ok-take_word-2.ensures.tree) c.in_ok-after.ensures.tree) c.in_ok-before.ensures.tree c.in_ok-within.ensures.tree

pub returns-in_ok-within-clause-run : goal.returns-in_ok-within-clause-run
returns-in_ok-within-clause-run c =
    λ k. c.in_ok-take_word.ensures.run do_clauses _ refl k ∙ c.in_ok-take_word-2.ensures.run behind_start _ refl k ∙ c.in_ok-after.ensures.run (behind_after ∷ k) ∙ c.in_ok-before.ensures.run k ∙ c.in_ok-within.ensures.run k

pub returns-in_err-take_word-3-clause-run : goal.returns-in_err-take_word-3-clause-run
returns-in_err-take_word-3-clause-run c =
    λ k. at_exit c.from_residual-in_err-take_word-3.result _ c.from_residual-in_err-take_word-3.ensures.1 _ _ _ _ (c.in_ok-take_word.ensures.run do_clauses _ refl k) (c.in_err-take_word-3.ensures.run behind_start _ refl k)

pub returns-in_err-bound-clause-run : goal.returns-in_err-bound-clause-run
returns-in_err-bound-clause-run c =
    λ k. at_exit c.from_residual-in_err-bound.result _ c.from_residual-in_err-bound.ensures.1 _ _ _ _ (c.in_ok-take_word.ensures.run do_clauses _ refl k ∙ c.in_ok-take_word-3.ensures.run behind_start _ refl k) (c.in_err-bound.ensures.run (last_clause ∷ k))

pub returns-in_err-ending-clause-run : goal.returns-in_err-ending-clause-run
returns-in_err-ending-clause-run c =
    λ k. at_exit c.from_residual-in_err-ending.result _ c.from_residual-in_err-ending.ensures.1 _ _ _ _ (c.in_ok-take_word.ensures.run do_clauses _ refl k ∙ c.in_ok-take_word-3.ensures.run behind_start _ refl k ∙ c.in_ok-bound.ensures.run (last_clause ∷ k)) (c.in_err-ending.ensures.run k)

pub returns-in_ok-ending-clause-tree : goal.returns-in_ok-ending-clause-tree
returns-in_ok-ending-clause-tree c =
    window unsaid (said (placed_token c.in_ok-take_word.ensures.tree) (placed_token c.in_ok-take_word-3.ensures.tree) c.in_ok-bound.ensures.tree) c.in_ok-ending.ensures.tree

pub returns-in_ok-ending-clause-run : goal.returns-in_ok-ending-clause-run
returns-in_ok-ending-clause-run c =
    λ k. c.in_ok-take_word.ensures.run do_clauses _ refl k ∙ c.in_ok-take_word-3.ensures.run behind_start _ refl k ∙ c.in_ok-bound.ensures.run (last_clause ∷ k) ∙ c.in_ok-ending.ensures.run k

pub returns-else-sees_word-2-clause-run : goal.returns-else-sees_word-2-clause-run
returns-else-sees_word-2-clause-run c =
    λ k. stopped_at _ _ _ _ (c.in_ok-take_word.ensures.run do_clauses _ refl k) (stop_here c.take_word.new.self behind_start k (no_bound (left c.take_word.new.self) (cc) (cc)))
