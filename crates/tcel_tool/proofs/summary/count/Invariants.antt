use Rattle.std.proofs.Common.{◌≡◌, ◌+◌, ◌≤◌}
use Rattle.std.specs.Int.{w64}
use Rattle.std.specs.Prelude.{FitsSigned}
use Rattle.tcel_tool.specs.Counting.{Counted, entries_ahead, none_counted}
use Rattle.tcel_tool.specs.declared.summary.Counts.{Counts}
use Rattle.tcel_tool.proofs.summary.count.Given as goal

-- what the ticks that are left show completes what all of them show
abbrev pub invariant-loop-left : goal.invariant-loop-left
invariant-loop-left l = record {
  now : l.machine.machine.now + l.left ≡ l.ticks;
  events : l.counts.events + l.left ≤ l.ticks;
  frames : l.counts.frames + l.left ≤ l.ticks;
  fits : FitsSigned w64 l.counts.sum;
  counted : (end : Counts) → Counted (entries_ahead l.machine l.left) l.counts end → Counted (entries_ahead l.fn.machine l.ticks) none_counted end;
}

abbrev pub decreases-loop-left : goal.decreases-loop-left
decreases-loop-left l = l.left
