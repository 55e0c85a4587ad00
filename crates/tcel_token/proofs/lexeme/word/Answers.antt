use Rattle.std.proofs.Common.{rules}
use Rattle.tcel_token.proofs.Firsts.{run_is_word, word_is_first}
use Rattle.tcel_token.proofs.lexeme.word.Goals as goal

pub kind_of_word-kind-requires-clause-word : goal.kind_of_word-kind-requires-clause-word
kind_of_word-kind-requires-clause-word c = search (rules, run_is_word)

pub returns-clause-first : goal.returns-clause-first
returns-clause-first c = search (rules, word_is_first)
