use Rattle.tcel_core.specs.Plain.{plain_item}
use Rattle.tcel_core.specs.Uses.{act_writes}
use Rattle.tcel_core.proofs.Variables.{variables_added}
use Rattle.tcel_core.proofs.uses.writes.Goals as goal

pub returns : goal.returns
returns c = variables_added c.empty-row.result c.add_writes.new.row (act_writes (plain_item c.args.item.now)) c.variables_in.result c.empty-row.ensures c.add_writes.ensures c.variables_in.ensures
