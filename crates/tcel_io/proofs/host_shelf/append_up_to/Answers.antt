use Rattle.std.proofs.Common.{rules, arith, length, drop, length-drop}
use Rattle.std.proofs.lemmas.Grind.{common_steps}
use Rattle.std.proofs.KnownBytes.{starts_with_rest, Consumes-more}
use Rattle.std.proofs.Transfers.{starts_with_trans}
use Rattle.std.specs.Io.{StartsWith}
use Rattle.tcel_io.proofs.host_shelf.append_up_to.Goals as goal

pub returns-then-count-eq0-clause-limited : goal.returns-then-count-eq0-clause-limited
returns-then-count-eq0-clause-limited g c =
    let old = c.args.into.now.items in
    let new = c.append_block.new.into.items in
    let starts : StartsWith new old = starts_with_trans new c.loop-block.into.items old c.in_ok-count.ensures.starts c.loop-block.invariant.starts in
    record {
      bytes = drop (length old) new;
      at_end = starts_with_rest new old starts;
      within = omega (arith, length-drop (length old) new, c.args.into.now.ok.0, c.append_block.new.into.ok.0, c.in_ok-count.ensures.count);
      exact = tt;
    }

pub loop-block-preserved : goal.loop-block-preserved
loop-block-preserved g c =
    let old = c.args.into.now.items in
    let middle = c.loop-block.into.items in
    let new = c.append_block.new.into.items in
    let before = c.loop-block.invariant in
    let block = c.in_ok-count.ensures in
    record {
      starts = starts_with_trans new middle old block.starts before.starts;
      bytes = Consumes-more _ _ _ old middle new before.starts block.starts before.bytes block.bytes;
      start = search rules;
      grown = omega (arith, block.count);
      bounded = grind (arith, common_steps, block.count, block.bound);
      block = grind (arith, common_steps);
    }
