use Rattle.tcel_image.proofs.Whole.{prefix_free, told_apart, reading_again, reading_takes, bytes_from_all, extra_behind, short_front}
use Rattle.tcel_image.proofs.laws.spelling_laws.Goals as goal

pub returns-clause-told : goal.returns-clause-told
returns-clause-told c = λ i j h k e. told_apart i j h k e

pub returns-clause-prefix_free : goal.returns-clause-prefix_free
returns-clause-prefix_free c = λ i j more h k e. prefix_free i j h k more e

pub returns-clause-read_again : goal.returns-clause-read_again
returns-clause-read_again c = λ i h. reading_again i h

pub returns-clause-read_only_so : goal.returns-clause-read_only_so
returns-clause-read_only_so c = λ bytes i fits e. reading_takes bytes i (bytes_from_all bytes fits) e

pub returns-clause-extra_behind : goal.returns-clause-extra_behind
returns-clause-extra_behind c = λ i b more h. extra_behind i b more h

pub returns-clause-short_front : goal.returns-clause-short_front
returns-clause-short_front c = λ i front b more h e long. short_front i front b more h e long
