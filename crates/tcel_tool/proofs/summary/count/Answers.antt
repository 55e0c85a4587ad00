use Rattle.std.proofs.Common.{◌≡◌, ◌<◌, ℕ, ap, arith, subst, sym}
use Rattle.tcel_machine.specs.Run.{Run}
use Rattle.tcel_tool.specs.Counting.{Counted, entries_ahead}
use Rattle.tcel_tool.proofs.Counts.{counted_none, ticks_counted}
use Rattle.tcel_tool.proofs.summary.count.Goals as goal

pub loop-left-preserved : goal.loop-left-preserved
loop-left-preserved c =
    let before = c.loop-left.invariant in
    let now = c.loop-left.machine in
    let next = c.count_tick-counts.new.machine in
    let left = c.loop-left.left in
    let done = c.count_tick-counts.ensures in
    let some : 0 < left = omega arith in
    record {
      now = omega (arith, before.now, ap (λ (run : Run). run.machine.now) done.run);
      events = omega (arith, before.events, done.events);
      frames = omega (arith, before.frames, done.frames);
      fits = done.fits before.fits;
      counted =
          λ end h. before.counted end (ticks_counted now next left c.loop-left.counts c.count_tick-counts.result end some done.run done.counted h);
    }

pub returns-clause-counted : goal.returns-clause-counted
returns-clause-counted c =
    let counts = c.loop-left.counts in
    let none_left : c.loop-left.left ≡ 0 = omega arith in
    c.loop-left.invariant.counted counts (subst (λ (n : ℕ). Counted (entries_ahead c.loop-left.machine n) counts counts) (sym none_left) (counted_none counts))
