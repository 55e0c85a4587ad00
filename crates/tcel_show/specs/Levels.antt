-- The levels of expressions, as the code keeps them.
use Rattle.tcel_grammar.specs.Expressions as grammar
use Rattle.tcel_grammar.specs.Expressions.{disjunction, conjunction, comparison, sum, term, factor, atom}
use Rattle.tcel_show.specs.declared.level.Level.{Level}

abbrev pub plain_level : Level → grammar.Level
plain_level Level.Disjunction = disjunction
plain_level Level.Conjunction = conjunction
plain_level Level.Comparison = comparison
plain_level Level.Sum = sum
plain_level Level.Term = term
plain_level Level.Factor = factor
plain_level Level.Atom = atom
