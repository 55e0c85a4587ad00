use Rattle.std.proofs.Common.{[], ◌∷◌, refl, ◌∙◌}
use Rattle.tcel_grammar.specs.Machine.{more_tasks}
use Rattle.tcel_parse.proofs.Lists.{a_task, tasks_push, tasks_are}
use Rattle.tcel_parse.proofs.Ending.{next_task, no_more, done_here}
use Rattle.tcel_parse.proofs.Reaches.{at_exit, memory_exit, stopped_at}
use Rattle.tcel_parse.proofs.parser.Parser.program.Goals as goal

pub returns-in_err-task-clause-run : goal.returns-in_err-task-clause-run
returns-in_err-task-clause-run c =
    at_exit c.from_residual.result _ c.from_residual.ensures.1 _ _ _ _ (refl) (c.in_err-task.ensures.run (more_tasks ∷ []))

pub returns-in_err-push-clause-run : goal.returns-in_err-push-clause-run
returns-in_err-push-clause-run c =
    memory_exit c.from_residual-in_err-push.result _ c.from_residual-in_err-push.ensures.1 refl _ _ _

pub tasks-init : goal.tasks-init
tasks-init c =
    record { tree = rw (c.in_ok-push.ensures.ok, c.new-tasks.ensures) (a_task c.in_ok-task.ensures.tree); run = c.in_ok-task.ensures.run (more_tasks ∷ []) }

pub returns-in_err-other-clause-run : goal.returns-in_err-other-clause-run
returns-in_err-other-clause-run c =
    at_exit c.from_residual-in_err-other.result _ c.from_residual-in_err-other.ensures.1 _ _ _ _ (c.tasks.invariant.run ∙ next_task c.tasks.self (cc)) (c.in_err-other.ensures.run (more_tasks ∷ []))

pub returns-in_err-push-2-clause-run : goal.returns-in_err-push-2-clause-run
returns-in_err-push-2-clause-run c =
    memory_exit c.from_residual-in_err-push-2.result _ c.from_residual-in_err-push-2.ensures.1 refl _ _ _

pub tasks-preserved : goal.tasks-preserved
tasks-preserved c =
    record { tree = rw c.in_ok-push-2.ensures.ok (tasks_push _ _ c.tasks.invariant.tree c.in_ok-other.ensures.tree); run = c.tasks.invariant.run ∙ next_task c.tasks.self (cc) ∙ c.in_ok-other.ensures.run (more_tasks ∷ []) }

pub returns-then-not-is_done-clause-run : goal.returns-then-not-is_done-clause-run
returns-then-not-is_done-clause-run c =
    stopped_at _ _ _ _ c.tasks.invariant.run (no_more c.tasks.self (cc) (cc))

pub returns-clause-tree : goal.returns-clause-tree
returns-clause-tree c =
    tasks_are c.tasks.invariant.tree (done_here c.tasks.self (cc)).1

pub returns-clause-run : goal.returns-clause-run
returns-clause-run c =
    c.tasks.invariant.run ∙ (done_here c.tasks.self (cc)).0
