use Rattle.std.proofs.Common.{◌≡◌, ℕ, ◌<◌, false}
use Rattle.tcel_image.specs.declared.flaw.FlawKind.{FlawKind}
use Rattle.tcel_verify.specs.First.{code_has}
use Rattle.tcel_verify.proofs.flaws.code_flaw.Given as goal

abbrev pub invariant-loop-place : goal.invariant-loop-place
invariant-loop-place l = (kind : FlawKind) (before : ℕ) → before < l.place → code_has l.task kind before ≡ false
