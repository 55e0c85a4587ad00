use Rattle.std.proofs.Common.{◌≡◌, ◌++◌, [], All, map, drop}
use Rattle.tcel_core.specs.Plain.{plain_task}
use Rattle.tcel_judge.specs.Courses.{HasTaken, judged}
use Rattle.tcel_judge.specs.FirstBreach.{judged_of}
use Rattle.tcel_judge.proofs.judging.courses_of.Given as goal

abbrev pub invariant-loop-number : goal.invariant-loop-number
invariant-loop-number l = record {
  judged : map judged l.courses.items ++ judged_of (map plain_task (drop l.number l.tasks)) (drop l.number l.script) ≡ judged_of (map plain_task l.tasks) l.script;
  each : All (HasTaken []) l.courses.items;
}
