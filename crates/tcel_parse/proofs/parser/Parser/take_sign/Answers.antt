use Rattle.tcel_parse.proofs.Heads.{takes_sign}
use Rattle.tcel_parse.proofs.parser.Parser.take_sign.Goals as goal

pub returns-clause-run : goal.returns-clause-run
returns-clause-run c = takes_sign c.args.sign c.take.result c.args.self.now c.take.new.self c.requires c.take.ensures.run
