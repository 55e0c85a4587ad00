use Rattle.std.proofs.Common.{refl}
use Rattle.tcel_script.proofs.examples.script_examples.Goals as goal

pub returns-clause-one : goal.returns-clause-one
returns-clause-one c = refl

pub returns-clause-several : goal.returns-clause-several
returns-clause-several c = refl
