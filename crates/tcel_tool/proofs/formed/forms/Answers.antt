use Rattle.std.proofs.Common.{◌∙◌, map, sym, subst}
use Rattle.std.proofs.lemmas.List.{length-map}
use Rattle.tcel_core.specs.Parts.{plain_parts}
use Rattle.tcel_core.specs.Plain.{plain_set, plain_task}
use Rattle.tcel_driver.proofs.Chosen.{forbidden}
use Rattle.tcel_driver.proofs.Costed.{whole_long}
use Rattle.tcel_tool.specs.SetChoice.{Names}
use Rattle.tcel_tool.proofs.ToldTasks.{names_told}
use Rattle.tcel_tool.proofs.formed.forms.Goals as goal

pub returns-in-Ok-clause-one_each : goal.returns-in-Ok-clause-one_each
returns-in-Ok-clause-one_each c =
    let tasks = c.args.set.now.tasks in
    let forms = c.in-Ok.forms in
    let one_each = whole_long c.args.costs.now (map plain_task tasks) (map plain_parts forms.parts) forms.whole forms.sliced c.in-Ok.ensures.forms.costed in
    one_each ∙ length-map tasks plain_task

pub returns-in-Err-clause-named : goal.returns-in-Err-clause-named
returns-in-Err-clause-named c =
    let set = plain_set c.args.set.now in
    let costs = c.args.costs.now in
    let cause = c.in-Err.cause in
    let name = c.told_name.result in
    subst (λ s. Names set s name) (sym c.status_for.ensures) (names_told set costs cause name (forbidden set costs cause c.in-Err.ensures.refused) c.told_name.ensures)
