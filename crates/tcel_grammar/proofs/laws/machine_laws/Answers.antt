use Rattle.tcel_grammar.proofs.OneAnswer.{accepted_is, syntax_is, depth_is}
use Rattle.tcel_grammar.proofs.laws.machine_laws.Goals as goal

pub returns : goal.returns
returns c = record { accepted = accepted_is; syntax = syntax_is; depth = depth_is }
