-- The levels of operators between operands, as the grammar has them.
use Rattle.tcel_grammar.specs.Expressions.{Level, disjunction, conjunction, comparison, sum, term}
use Rattle.tcel_parse.specs.declared.level.Level as named
use Rattle.tcel_parse.specs.declared.level.Level.TheVariants.{Disjunction, Conjunction, Comparison, Sum, Term}

-- the level of this name
abbrev pub level_named : named.Level → Level
level_named Disjunction = disjunction
level_named Conjunction = conjunction
level_named Comparison = comparison
level_named Sum = sum
level_named Term = term
