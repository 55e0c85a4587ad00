use Rattle.tcel_machine.proofs.Defaults.{no_default}
use Rattle.tcel_machine.proofs.laws.no_step_takes_a_default.Goals as goal

pub returns : goal.returns
returns c = record { law = no_default }
