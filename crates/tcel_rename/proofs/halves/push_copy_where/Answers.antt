use Rattle.tcel_rename.proofs.Growing.{none_copied}
use Rattle.tcel_rename.proofs.halves.push_copy_where.Goals as goal

pub returns-then-not-so : goal.returns-then-not-so
returns-then-not-so c = none_copied c.args.list.now c.args.so (c.args.from, c.args.to) c.if-not-so.true
