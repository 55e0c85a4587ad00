use Rattle.tcel_check.proofs.Heads.{words_more, words_past}
use Rattle.tcel_check.proofs.head.words_behind.Goals as goal

pub returns-then-words-gt-MOST_WORDS-clause-step : goal.returns-then-words-gt-MOST_WORDS-clause-step
returns-then-words-gt-MOST_WORDS-clause-step c = λ end left rest. words_past c.args.words c.args.decl.now left c.if-words-gt-MOST_WORDS.true rest

pub returns-clause-step : goal.returns-clause-step
returns-clause-step c = λ end left rest.
    words_more c.args.words c.args.decl.now left c.if-words-gt-MOST_WORDS.false (rw (← c.words_of.ensures.words) c.keep.ensures) (rw c.words_of.ensures.words at rest)
