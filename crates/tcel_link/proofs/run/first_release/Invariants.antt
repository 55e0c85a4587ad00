use Rattle.std.proofs.Common.{◌≡◌, drop, None}
use Rattle.tcel_link.specs.Runs.{first_release}
use Rattle.tcel_link.proofs.run.first_release.Given as goal

abbrev pub invariant-loop-number : goal.invariant-loop-number
invariant-loop-number l = first_release l.time l.found l.number (drop l.number l.runs) ≡ first_release l.ticks None 0 l.runs
