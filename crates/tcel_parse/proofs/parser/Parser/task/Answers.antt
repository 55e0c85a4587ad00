use Rattle.std.proofs.Common.{◌∷◌, refl, ◌∙◌}
use Rattle.tcel_token.specs.declared.keyword.Keyword.{Keyword}
use Rattle.tcel_grammar.specs.Programs.{task}
use Rattle.tcel_grammar.specs.Machine.{this_word, any_name, any_number, task_block}
use Rattle.tcel_parse.specs.Reading.{left}
use Rattle.tcel_parse.proofs.Heads.{stop_here, placed_token}
use Rattle.tcel_parse.proofs.Options.{no_task_brace}
use Rattle.tcel_parse.proofs.Reaches.{at_exit, stopped_at}
use Rattle.tcel_parse.proofs.parser.Parser.task.Goals as goal

pub returns-in_err-expect_word-clause-run : goal.returns-in_err-expect_word-clause-run
returns-in_err-expect_word-clause-run c =
    λ k. at_exit c.from_residual.result _ c.from_residual.ensures.1 _ _ _ _ (refl) (c.in_err-expect_word.ensures.run (any_name ∷ this_word Keyword.Priority ∷ any_number ∷ task_block ∷ k))

pub returns-in_err-name-clause-run : goal.returns-in_err-name-clause-run
returns-in_err-name-clause-run c =
    λ k. at_exit c.from_residual-in_err-name.result _ c.from_residual-in_err-name.ensures.1 _ _ _ _ (c.in_ok-expect_word.ensures.run (any_name ∷ this_word Keyword.Priority ∷ any_number ∷ task_block ∷ k)) (c.in_err-name.ensures.run (this_word Keyword.Priority ∷ any_number ∷ task_block ∷ k))

pub returns-in_err-expect_word-2-clause-run : goal.returns-in_err-expect_word-2-clause-run
returns-in_err-expect_word-2-clause-run c =
    λ k. at_exit c.from_residual-in_err-expect_word-2.result _ c.from_residual-in_err-expect_word-2.ensures.1 _ _ _ _ (c.in_ok-expect_word.ensures.run (any_name ∷ this_word Keyword.Priority ∷ any_number ∷ task_block ∷ k) ∙ c.in_ok-name.ensures.run (this_word Keyword.Priority ∷ any_number ∷ task_block ∷ k)) (c.in_err-expect_word-2.ensures.run (any_number ∷ task_block ∷ k))

pub returns-in_err-priority-clause-run : goal.returns-in_err-priority-clause-run
returns-in_err-priority-clause-run c =
    λ k. at_exit c.from_residual-in_err-priority.result _ c.from_residual-in_err-priority.ensures.1 _ _ _ _ (c.in_ok-expect_word.ensures.run (any_name ∷ this_word Keyword.Priority ∷ any_number ∷ task_block ∷ k) ∙ c.in_ok-name.ensures.run (this_word Keyword.Priority ∷ any_number ∷ task_block ∷ k) ∙ c.in_ok-expect_word-2.ensures.run (any_number ∷ task_block ∷ k)) (c.in_err-priority.ensures.run (task_block ∷ k))

pub returns-then-not-sees_sign-clause-run : goal.returns-then-not-sees_sign-clause-run
returns-then-not-sees_sign-clause-run c =
    λ k. stopped_at _ _ _ _ (c.in_ok-expect_word.ensures.run (any_name ∷ this_word Keyword.Priority ∷ any_number ∷ task_block ∷ k) ∙ c.in_ok-name.ensures.run (this_word Keyword.Priority ∷ any_number ∷ task_block ∷ k) ∙ c.in_ok-expect_word-2.ensures.run (any_number ∷ task_block ∷ k) ∙ c.in_ok-priority.ensures.run (task_block ∷ k)) (stop_here c.expect_number.new.self task_block k (no_task_brace (left c.expect_number.new.self) (cc)))

pub returns-in_err-take_sign-clause-run : goal.returns-in_err-take_sign-clause-run
returns-in_err-take_sign-clause-run c =
    λ k. at_exit c.from_residual-in_err-take_sign.result _ c.from_residual-in_err-take_sign.ensures.1 _ _ _ _ (c.in_ok-expect_word.ensures.run (any_name ∷ this_word Keyword.Priority ∷ any_number ∷ task_block ∷ k) ∙ c.in_ok-name.ensures.run (this_word Keyword.Priority ∷ any_number ∷ task_block ∷ k) ∙ c.in_ok-expect_word-2.ensures.run (any_number ∷ task_block ∷ k) ∙ c.in_ok-priority.ensures.run (task_block ∷ k)) (c.in_err-take_sign.ensures.run task_block _ refl k)

pub returns-in_err-decls-clause-run : goal.returns-in_err-decls-clause-run
returns-in_err-decls-clause-run c =
    λ k. at_exit c.from_residual-in_err-decls.result _ c.from_residual-in_err-decls.ensures.1 _ _ _ _ (c.in_ok-expect_word.ensures.run (any_name ∷ this_word Keyword.Priority ∷ any_number ∷ task_block ∷ k) ∙ c.in_ok-name.ensures.run (this_word Keyword.Priority ∷ any_number ∷ task_block ∷ k) ∙ c.in_ok-expect_word-2.ensures.run (any_number ∷ task_block ∷ k) ∙ c.in_ok-priority.ensures.run (task_block ∷ k) ∙ c.in_ok-take_sign.ensures.run task_block _ refl k) (c.in_err-decls.ensures.run k)

pub returns-in_err-every-clause-run : goal.returns-in_err-every-clause-run
returns-in_err-every-clause-run c =
    λ k. at_exit c.from_residual-in_err-every.result _ c.from_residual-in_err-every.ensures.1 _ _ _ _ (c.in_ok-expect_word.ensures.run (any_name ∷ this_word Keyword.Priority ∷ any_number ∷ task_block ∷ k) ∙ c.in_ok-name.ensures.run (this_word Keyword.Priority ∷ any_number ∷ task_block ∷ k) ∙ c.in_ok-expect_word-2.ensures.run (any_number ∷ task_block ∷ k) ∙ c.in_ok-priority.ensures.run (task_block ∷ k) ∙ c.in_ok-take_sign.ensures.run task_block _ refl k ∙ c.in_ok-decls.ensures.run k) (c.in_err-every.ensures.run k)

pub returns-in_err-expect_sign-clause-run : goal.returns-in_err-expect_sign-clause-run
returns-in_err-expect_sign-clause-run c =
    λ k. at_exit c.from_residual-in_err-expect_sign.result _ c.from_residual-in_err-expect_sign.ensures.1 _ _ _ _ (c.in_ok-expect_word.ensures.run (any_name ∷ this_word Keyword.Priority ∷ any_number ∷ task_block ∷ k) ∙ c.in_ok-name.ensures.run (this_word Keyword.Priority ∷ any_number ∷ task_block ∷ k) ∙ c.in_ok-expect_word-2.ensures.run (any_number ∷ task_block ∷ k) ∙ c.in_ok-priority.ensures.run (task_block ∷ k) ∙ c.in_ok-take_sign.ensures.run task_block _ refl k ∙ c.in_ok-decls.ensures.run k ∙ c.in_ok-every.ensures.run k) (c.in_err-expect_sign.ensures.run k)

pub returns-clause-tree : goal.returns-clause-tree
returns-clause-tree c =
    task c.in_ok-expect_word.ensures.tree c.in_ok-name.ensures.tree c.in_ok-expect_word-2.ensures.tree c.in_ok-priority.ensures.tree (placed_token c.in_ok-take_sign.ensures.tree) c.in_ok-decls.ensures.tree c.in_ok-every.ensures.tree c.in_ok-expect_sign.ensures.tree

pub returns-clause-run : goal.returns-clause-run
returns-clause-run c =
    λ k. c.in_ok-expect_word.ensures.run (any_name ∷ this_word Keyword.Priority ∷ any_number ∷ task_block ∷ k) ∙ c.in_ok-name.ensures.run (this_word Keyword.Priority ∷ any_number ∷ task_block ∷ k) ∙ c.in_ok-expect_word-2.ensures.run (any_number ∷ task_block ∷ k) ∙ c.in_ok-priority.ensures.run (task_block ∷ k) ∙ c.in_ok-take_sign.ensures.run task_block _ refl k ∙ c.in_ok-decls.ensures.run k ∙ c.in_ok-every.ensures.run k ∙ c.in_ok-expect_sign.ensures.run k
