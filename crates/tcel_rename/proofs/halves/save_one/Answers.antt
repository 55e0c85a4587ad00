use Rattle.tcel_rename.proofs.Growing.{none_copied}
use Rattle.tcel_rename.proofs.halves.save_one.Goals as goal

pub returns-then-not-live-clause-first : goal.returns-then-not-live-clause-first
returns-then-not-live-clause-first c = none_copied c.args.first.now c.args.live (c.args.copy, c.args.next) c.if-not-live.true

pub returns-then-not-live-clause-rest : goal.returns-then-not-live-clause-rest
returns-then-not-live-clause-rest c = none_copied c.args.rest.now c.args.live (c.args.next, c.args.var) c.if-not-live.true
