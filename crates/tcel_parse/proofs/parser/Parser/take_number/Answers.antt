use Rattle.std.proofs.Common.{rules}
use Rattle.tcel_parse.proofs.Heads.{number_here}
use Rattle.tcel_parse.proofs.parser.Parser.take_number.Goals as goal

pub returns-in_ok-at-in-Number-clause-tree : goal.returns-in_ok-at-in-Number-clause-tree
returns-in_ok-at-in-Number-clause-tree c =
    number_here c.args.self.now.rest.now c.first-item.result c.in-Number.value _ _ _ c.in-len1-up.len_at_least c.first-item.is c.in-Number.is (search rules) c.in_ok-at-in-Number.ensures.head
