use Rattle.tcel_verify.proofs.FlawOrder.{found_behind_head}
use Rattle.tcel_verify.proofs.flaws.task_flaw.Goals as goal

pub returns-in-None : goal.returns-in-None
returns-in-None c =
    found_behind_head c.args.earlier.now c.args.task.now c.args.number c.code_flaw.result c.in-None.ensures c.code_flaw.ensures
