use Rattle.tcel_core.proofs.RowLemmas.{alone}
use Rattle.tcel_core.proofs.row.single.Goals as goal

pub returns : goal.returns
returns c v h = rw c.mask.ensures (rw c.mask-2.ensures (rw c.mask-3.ensures (rw c.mask-4.ensures (alone c.args.var v h))))
