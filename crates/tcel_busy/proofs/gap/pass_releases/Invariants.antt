use Rattle.std.proofs.Common.{◌≡◌, ◌^◌, ◌<◌, length}
use Rattle.tcel_busy.proofs.Gaps.{IsPassing}
use Rattle.tcel_busy.proofs.gap.pass_releases.Given as goal

abbrev pub invariant-loop-task : goal.invariant-loop-task
invariant-loop-task l = record {
  size : length l.next ≡ length l.initial.next;
  fits : l.until < 2 ^ 64;
  passing : IsPassing l.plans l.time l.task l.next l.cycles l.until;
}
