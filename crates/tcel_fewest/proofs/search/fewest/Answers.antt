use Rattle.std.proofs.Common.{arith}
use Rattle.tcel_fewest.proofs.Searching.{none_found}
use Rattle.tcel_fewest.proofs.search.fewest.Goals as goal

pub returns : goal.returns
returns c =
    let forms = c.args.forms.now in
    let past = c.loop-size-test.false in
    let end = c.len-size-end.ensures in
    none_found forms.whole forms.sliced forms.hyper c.loop-size.size c.loop-size.faults (omega arith) c.loop-size.invariant
