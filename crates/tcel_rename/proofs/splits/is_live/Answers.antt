use Rattle.tcel_rename.specs.Sets.{by_list}
use Rattle.tcel_rename.proofs.FindingSplits.{live_any}
use Rattle.tcel_rename.proofs.splits.is_live.Goals as goal

pub returns : goal.returns
returns c = λ vars whole list are. live_any (by_list vars whole list) c.args.lives.now c.args.id c.row_at-row.result c.meets.result are c.row_at-row.ensures c.meets.ensures
