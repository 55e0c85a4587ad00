use Rattle.tcel_grammar.proofs.OneAnswer.{not_accepted, not_shallow, syntax_or_depth, one_syntax, one_depth}
use Rattle.tcel_grammar.proofs.laws.one_answer.Goals as goal

pub returns : goal.returns
returns c = record { no_syntax = not_accepted; no_depth = not_shallow; first = syntax_or_depth; syntax_place = one_syntax; depth_place = one_depth }
