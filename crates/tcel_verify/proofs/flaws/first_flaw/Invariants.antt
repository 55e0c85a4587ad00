use Rattle.std.proofs.Common.{◌≡◌, ◌<◌, false}
use Rattle.tcel_image.specs.declared.flaw.Flaw.{Flaw}
use Rattle.tcel_image.specs.Validity.{has_flaw}
use Rattle.tcel_verify.proofs.flaws.first_flaw.Given as goal

abbrev pub invariant-loop-number : goal.invariant-loop-number
invariant-loop-number l = (flaw : Flaw) → flaw.task < l.number → has_flaw l.image flaw ≡ false
