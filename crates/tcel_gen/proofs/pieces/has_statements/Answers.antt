use Rattle.tcel_gen.proofs.CodeSteps.{any_statement}
use Rattle.tcel_gen.proofs.pieces.has_statements.Goals as goal

pub returns : goal.returns
returns c = any_statement c.args.body.now c.is_empty.result c.is_empty.ensures
