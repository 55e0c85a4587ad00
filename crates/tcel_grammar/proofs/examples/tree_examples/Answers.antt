use Rattle.std.proofs.Common.{refl}
use Rattle.tcel_grammar.specs.Examples.{around, chain, chain_tree, nested, summed, task_around, tokens_of}
use Rattle.tcel_grammar.specs.Expressions.{here, there, between, a_conjunction, a_comparison, a_sum, a_term, added, a_factor, an_atom, a_number}
use Rattle.tcel_grammar.specs.Faults.{IsShallow}
use Rattle.tcel_grammar.specs.Statements.{numbered, unsaid, block, no_more, one_more, assigned}
use Rattle.tcel_grammar.specs.Programs.{IsProgram, no_decl, every, task, last_task}
use Rattle.tcel_grammar.specs.Machine.{run}
use Rattle.tcel_grammar.proofs.OneAnswer.{accepted_is}
use Rattle.tcel_grammar.proofs.examples.tree_examples.Goals as goal

derived : IsProgram (tokens_of (around chain)) (task_around chain_tree)
derived =
    last_task
    (task there here there (numbered here) there no_decl
    (every there (numbered here) unsaid
    (block there
    (one_more
    (assigned here there
    (a_conjunction
    (a_comparison
    (a_sum
    (added
    (added (a_term (a_factor (an_atom (a_number here)))) (between here refl refl) (a_factor (an_atom (a_number here)))) (between here refl refl) (a_factor (an_atom (a_number here))))))) there)
    no_more) there)) there)

shallow : IsShallow (tokens_of (around chain))
unfolding run
shallow = let h = accepted_is (tokens_of (around chain)) refl in h.1.shallow

pub returns-clause-chain : goal.returns-clause-chain
returns-clause-chain c = record { program = derived; shallow = shallow }

pub returns-clause-nested : goal.returns-clause-nested
unfolding run
returns-clause-nested c = accepted_is (tokens_of (around (nested 30))) refl

pub returns-clause-summed : goal.returns-clause-summed
unfolding run
returns-clause-summed c = accepted_is (tokens_of (around (summed 64))) refl
