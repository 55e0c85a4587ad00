use Rattle.tcel_num.proofs.CommonMultiples.{ceil_enough, ceil_least}
use Rattle.tcel_num.proofs.multiples.ceil_div.Goals as goal

pub returns-clause-enough : goal.returns-clause-enough
returns-clause-enough c = ceil_enough c.args.a c.args.b c.requires.some

pub returns-clause-least : goal.returns-clause-least
returns-clause-least c = λ parts h. ceil_least c.args.a c.args.b parts c.requires.some h
