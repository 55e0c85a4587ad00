use Rattle.tcel_trace.proofs.WordTexts.{named}
use Rattle.tcel_trace.proofs.words.name_in.Goals as goal

pub returns : goal.returns
returns c = named c.args.word.now c.new.result c.new.ensures.value c.new.ensures.valid
