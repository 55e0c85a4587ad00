use Rattle.std.proofs.Common.{◌≡◌, ◌++◌, drop}
use Rattle.tcel_verify.specs.Names.{stands_again, state_names}
use Rattle.tcel_verify.proofs.names.stands_again.Given as goal

abbrev pub invariant-loop-place : goal.invariant-loop-place
invariant-loop-place l =
    stands_again l.names (l.others ++ state_names l.states) ≡ stands_again (drop l.place l.names) (l.others ++ state_names l.states)
