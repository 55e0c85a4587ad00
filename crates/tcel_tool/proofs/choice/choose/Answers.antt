use Rattle.std.proofs.Common.{sym, subst}
use Rattle.tcel_core.specs.Plain.{plain_set}
use Rattle.tcel_tool.specs.SetChoice.{Names}
use Rattle.tcel_tool.proofs.ToldTasks.{names_told}
use Rattle.tcel_tool.proofs.choice.choose.Goals as goal

pub returns-in-Err-clause-named : goal.returns-in-Err-clause-named
returns-in-Err-clause-named c =
    let set = plain_set c.args.set.now in
    subst (λ s. Names set s c.told_name.result) (sym c.status_for.ensures) (names_told set c.args.costs.now c.in-Err.cause c.told_name.result c.in-Err.ensures.refused c.told_name.ensures)
