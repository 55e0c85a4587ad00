use Rattle.std.proofs.Common.{[], refl}
use Rattle.tcel_grammar.specs.declared.deep.Deep.{Deep}
use Rattle.tcel_grammar.specs.Examples.{around, doubled, end_of, nested, summed, tokens_of}
use Rattle.tcel_grammar.specs.Machine.{run}
use Rattle.tcel_grammar.proofs.OneAnswer.{syntax_is, depth_is}
use Rattle.tcel_grammar.proofs.examples.fault_examples.Goals as goal

pub returns-clause-doubled : goal.returns-clause-doubled
unfolding run
returns-clause-doubled c = syntax_is (tokens_of (around doubled)) _ (end_of 16) refl

pub returns-clause-empty : goal.returns-clause-empty
unfolding run
returns-clause-empty c = syntax_is [] _ (end_of 0) refl

pub returns-clause-nested : goal.returns-clause-nested
unfolding run
returns-clause-nested c = depth_is (tokens_of (around (nested 31))) _ (end_of 0) Deep.Nesting refl

pub returns-clause-summed : goal.returns-clause-summed
unfolding run
returns-clause-summed c = depth_is (tokens_of (around (summed 65))) _ (end_of 0) Deep.Operators refl
