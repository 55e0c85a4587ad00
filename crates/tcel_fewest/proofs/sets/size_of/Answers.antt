use Rattle.std.proofs.Common.{arith}
use Rattle.tcel_fewest.proofs.SetLemmas.{size_least, size_next, size_start}
use Rattle.tcel_fewest.proofs.sets.size_of.Goals as goal

pub loop-below-init : goal.loop-below-init
loop-below-init c = record { is = size_start c.args.set; most = omega arith }

pub loop-below-preserved : goal.loop-below-preserved
loop-below-preserved c =
    record {
      is = size_next c.loop-below.below c.args.set c.loop-below.size c.has.result c.loop-below.invariant.is c.has.ensures;
      most = size_least c.loop-below.below c.loop-below.size c.has.result c.loop-below.invariant.most;
    }
