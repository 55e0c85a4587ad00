use Rattle.tcel_core.proofs.RowLemmas.{shared, shared_some}
use Rattle.tcel_core.proofs.row.Row.meets.Goals as goal

pub returns : goal.returns
returns c =
    let a = c.args.self.now.bits in
    let b = c.args.other.now.bits in (
      shared a b c.share.result c.share-2.result c.share-3.result c.share-4.result c.share.ensures.0 c.share-2.ensures.0 c.share-3.ensures.0 c.share-4.ensures.0,
      shared_some a b c.share.result c.share-2.result c.share-3.result c.share-4.result c.share.ensures.1 c.share-2.ensures.1 c.share-3.ensures.1 c.share-4.ensures.1,
    )
