use Rattle.std.proofs.Common.{◌≡◌, drop}
use Rattle.tcel_judge.specs.Gaps.{NoneLacks}
use Rattle.tcel_judge.proofs.missing.first_missing.Given as goal

abbrev pub invariant-loop-task : goal.invariant-loop-task
invariant-loop-task l = record {
  rest : drop l.task l.courses ≡ drop l.task l.fn.courses;
  whole : NoneLacks l.plans l.ticks l.fn.courses l.task;
}
