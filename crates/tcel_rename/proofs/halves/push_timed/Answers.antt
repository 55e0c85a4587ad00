use Rattle.tcel_rename.proofs.Growing.{timed_none}
use Rattle.tcel_rename.proofs.halves.push_timed.Goals as goal

pub returns-then-is_empty : goal.returns-then-is_empty
returns-then-is_empty c = timed_none c.args.inside c.args.list.now _ (c.is_empty.ensures.0 c.if-is_empty.true)
