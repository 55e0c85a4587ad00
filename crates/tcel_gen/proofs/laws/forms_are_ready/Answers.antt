use Rattle.tcel_gen.proofs.ReadyForms.{forms_ready}
use Rattle.tcel_gen.proofs.laws.forms_are_ready.Goals as goal

pub returns : goal.returns
returns c = record { law = forms_ready }
