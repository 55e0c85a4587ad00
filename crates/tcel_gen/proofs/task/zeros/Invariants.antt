use Rattle.std.proofs.Common.{◌≡◌, pos, replicate}
use Rattle.tcel_gen.proofs.task.zeros.Given as goal

abbrev pub invariant-loop : goal.invariant-loop
invariant-loop l = l.words ≡ replicate l.counter (pos 0)
