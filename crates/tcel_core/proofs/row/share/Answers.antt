use Rattle.tcel_core.proofs.RowLemmas.{common, common_some}
use Rattle.tcel_core.proofs.row.share.Goals as goal

pub returns : goal.returns
returns c = (common c.args.a c.args.b c.ranges.a.fits, common_some c.args.a c.args.b)
