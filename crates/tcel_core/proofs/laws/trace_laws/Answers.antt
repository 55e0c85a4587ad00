use Rattle.tcel_core.proofs.PromiseLaws.{first_promises-prefix}
use Rattle.tcel_core.proofs.laws.trace_laws.Goals as goal

pub returns : goal.returns
returns c = first_promises-prefix
