use Rattle.std.proofs.Common.{get_or, ap}
use Rattle.tcel_core.specs.Rows.{stands_in}
use Rattle.tcel_rename.proofs.NumberLists.{temporaries_more}
use Rattle.tcel_rename.proofs.numbers.add_temporaries.Goals as goal

pub loop-i-preserved : goal.loop-i-preserved
loop-i-preserved c =
    temporaries_more c.args.own.now (stands_in c.args.row.now) c.loop-i.i (get_or c.args.own.now c.loop-i.i c.index-own-i.result) c.has.result c.loop-i.vars c.push_where.new.vars c.args.vars.now c.loop-i-test.true
    (ap (get_or c.args.own.now c.loop-i.i) c.index-own-i.is) c.has.ensures
    c.loop-i.invariant c.in_ok-push_where.ensures
