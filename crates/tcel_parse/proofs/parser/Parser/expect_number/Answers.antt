use Rattle.std.proofs.Common.{refl, []}
use Rattle.tcel_grammar.specs.Machine.{any_number}
use Rattle.tcel_parse.proofs.Heads.{no_number}
use Rattle.tcel_parse.proofs.parser.Parser.expect_number.Goals as goal

pub returns-then-not-sees_number-clause-run : goal.returns-then-not-sees_number-clause-run
returns-then-not-sees_number-clause-run c = λ k. no_number c.args.self.now k cc

pub returns-clause-run : goal.returns-clause-run
returns-clause-run c = λ k. c.take_number.ensures.run any_number [] refl k
