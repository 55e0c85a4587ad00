use Rattle.tcel_core.proofs.RowLemmas.{added}
use Rattle.tcel_core.proofs.row.Row.add.Goals as goal

pub returns : goal.returns
returns c v h = added c.args.self.now.bits c.args.other.now.bits v h
