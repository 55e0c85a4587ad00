use Rattle.std.proofs.Common.{◌≡◌, length}
use Rattle.tcel_busy.proofs.AllWorst.{IsWidening}
use Rattle.tcel_busy.proofs.worst_case.all_worst_with.Given as goal

abbrev pub invariant-loop-place : goal.invariant-loop-place
invariant-loop-place l = record {
  size : length l.worst ≡ length l.initial.worst;
  widening : IsWidening l.points l.stretch l.place l.initial.worst l.worst;
}
