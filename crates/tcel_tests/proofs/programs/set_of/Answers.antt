use Rattle.tcel_check.proofs.Checkable.{accepted_are_checkable}
use Rattle.tcel_tests.proofs.programs.set_of.Goals as goal

pub returns : goal.returns
returns c = c.in_ok-set.ensures.sound (accepted_are_checkable c.in_ok-program.ensures.ok)
