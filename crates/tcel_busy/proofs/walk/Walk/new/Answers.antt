use Rattle.std.proofs.Common.{refl, false}
use Rattle.tcel_busy.specs.declared.walk.Walk.TheInside.{Inside}
use Rattle.tcel_busy.proofs.Walks.{asked_first, begun}
use Rattle.tcel_busy.proofs.walk.Walk.new.Goals as goal

pub pass_releases-gap-requires-clause-cycles : goal.pass_releases-gap-requires-clause-cycles
pass_releases-gap-requires-clause-cycles c = asked_first c.args.plans.now c.requires.fit.0 c.args.task c.requires.fit.1 c.requires.in_range

pub invariant_of-result : goal.invariant_of-result
invariant_of-result c =
    let a : Inside = record {
      plans = c.args.plans;
      task = c.args.task;
      frame = 0;
      release = 0;
      from = 0;
      delay = c.pass_releases-gap.result.cycles;
      until = c.pass_releases-gap.result.until;
      next = c.pass_releases-gap.new.next;
      over = false;
    } in
    begun a c.requires.fit.0 c.requires.fit.1 c.requires.in_range refl refl refl refl c.pass_releases-gap.result refl refl c.pass_releases-gap.auto.next c.pass_releases-gap.ensures.next c.pass_releases-gap.ensures.gap
