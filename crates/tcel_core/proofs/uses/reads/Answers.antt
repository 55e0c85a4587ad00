use Rattle.tcel_core.specs.Plain.{plain_item}
use Rattle.tcel_core.specs.Uses.{act_reads}
use Rattle.tcel_core.proofs.Variables.{variables_added}
use Rattle.tcel_core.proofs.uses.reads.Goals as goal

pub returns : goal.returns
returns c = variables_added c.empty-row.result c.add_reads.new.row (act_reads (plain_item c.args.item.now)) c.variables_in.result c.empty-row.ensures c.add_reads.ensures c.variables_in.ensures
