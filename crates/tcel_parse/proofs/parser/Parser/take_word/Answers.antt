use Rattle.tcel_parse.proofs.Heads.{takes_word}
use Rattle.tcel_parse.proofs.parser.Parser.take_word.Goals as goal

pub returns-clause-run : goal.returns-clause-run
returns-clause-run c = takes_word c.args.word c.take.result c.args.self.now c.take.new.self c.requires c.take.ensures.run
