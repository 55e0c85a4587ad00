use Rattle.tcel_grammar.proofs.OneTree.{one_tree}
use Rattle.tcel_grammar.proofs.laws.one_tree.Goals as goal

pub returns : goal.returns
returns c = one_tree
