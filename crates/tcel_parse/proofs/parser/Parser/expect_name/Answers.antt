use Rattle.std.proofs.Common.{refl, []}
use Rattle.tcel_grammar.specs.Machine.{any_name}
use Rattle.tcel_parse.proofs.Heads.{no_name}
use Rattle.tcel_parse.proofs.parser.Parser.expect_name.Goals as goal

pub returns-then-not-sees_name-clause-run : goal.returns-then-not-sees_name-clause-run
returns-then-not-sees_name-clause-run c = λ k. no_name c.args.self.now k cc

pub returns-clause-run : goal.returns-clause-run
returns-clause-run c = λ k. c.take_name.ensures.run any_name [] refl k
