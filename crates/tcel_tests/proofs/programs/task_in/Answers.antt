use Rattle.std.proofs.Common.{◌∙◌, [], ◌∷◌, Some, ap}
use Rattle.std.proofs.lemmas.List.{map-append}
use Rattle.std.proofs.lemmas.List.Elements.{All-pop}
use Rattle.std.specs.Prelude.{map}
use Rattle.tcel_core.specs.Plain.{plain_task}
use Rattle.tcel_core.specs.Sound.{IsSoundTask}
use Rattle.tcel_tests.proofs.programs.task_in.Goals as goal

pub returns-in-Some : goal.returns-in-Some
returns-in-Some c =
    let left = c.pop.new.self in
    let task = c.in-Some.task in
    (All-pop IsSoundTask (map plain_task c.in_ok-tasks.field-0.tasks) (map plain_task left) (Some (plain_task task))
    (ap (λ tasks. map plain_task tasks) c.in-Some.ensures ∙ map-append plain_task left (task ∷ [])) c.in_ok-tasks.ensures.each).1
