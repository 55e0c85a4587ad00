use Rattle.std.proofs.Common.{◌≡◌, ℕ, ◌<◌, map, take, None}
use Rattle.tcel_judge.specs.Courses.{HaveTaken, judged}
use Rattle.tcel_judge.specs.FirstBreach.{breach_at}
use Rattle.tcel_judge.proofs.lines.first_breach.Given as goal

abbrev pub invariant-loop-number : goal.invariant-loop-number
invariant-loop-number l = record {
  taken : HaveTaken (map judged l.fn.courses) (take l.number l.lines) l.courses;
  passed : (k : ℕ) → k < l.number → breach_at (map judged l.fn.courses) l.lines k ≡ None;
}
