use Rattle.tcel_grammar.proofs.OneAnswer.{some_answer}
use Rattle.tcel_grammar.proofs.laws.some_answer.Goals as goal

pub returns : goal.returns
returns c = some_answer
