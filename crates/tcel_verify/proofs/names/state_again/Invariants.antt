use Rattle.std.proofs.Common.{◌≡◌, drop}
use Rattle.tcel_image.specs.Validity.{has_twice}
use Rattle.tcel_verify.specs.Names.{state_names}
use Rattle.tcel_verify.proofs.names.state_again.Given as goal

abbrev pub invariant-loop-place : goal.invariant-loop-place
invariant-loop-place l = has_twice (state_names l.states) ≡ has_twice (state_names (drop l.place l.states))
