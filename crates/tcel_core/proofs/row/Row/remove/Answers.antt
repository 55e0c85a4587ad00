use Rattle.tcel_core.proofs.RowLemmas.{removed}
use Rattle.tcel_core.proofs.row.Row.remove.Goals as goal

pub returns : goal.returns
returns c v h = removed c.args.self.now.bits c.args.other.now.bits v h
