use Rattle.std.proofs.Common.{arith}
use Rattle.tcel_core.proofs.StateWords.{states_within}
use Rattle.tcel_core.proofs.cells.first_words_of.Goals as goal

pub overflow_sub-all_words : goal.overflow_sub-all_words
overflow_sub-all_words c = omega (arith, states_within c.args.vars.now, c.all_words.ensures, c.state_words.ensures)
