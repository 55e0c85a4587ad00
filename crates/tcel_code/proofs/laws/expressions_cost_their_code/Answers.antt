use Rattle.tcel_code.proofs.CodeCycles.{code_takes}
use Rattle.tcel_code.proofs.laws.expressions_cost_their_code.Goals as goal

pub returns : goal.returns
returns c = record { law = code_takes }
