use Rattle.std.proofs.Common.{◌+◌, ◌-◌, length}
use Rattle.tcel_core.specs.Promises.{promises}
use Rattle.tcel_judge.specs.Courses.{judged, place}
use Rattle.tcel_judge.proofs.Searches.{Searched}
use Rattle.tcel_judge.proofs.missing.gap_of.Given as goal

abbrev pub invariant-loop-coming : goal.invariant-loop-coming
invariant-loop-coming l = Searched l.ticks l.plan.total l.count l.fn.course l.course l.coming

abbrev pub decreases-loop-coming : goal.decreases-loop-coming
decreases-loop-coming l = length (promises (judged l.fn.course).does (l.last + 1)) - place l.course
