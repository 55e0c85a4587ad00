use Rattle.std.proofs.Common.{refl, []}
use Rattle.tcel_grammar.specs.Machine.{this_sign}
use Rattle.tcel_parse.proofs.Heads.{no_sign, reads_sign, placed_token}
use Rattle.tcel_parse.proofs.Reaches.{at_exit}
use Rattle.tcel_parse.proofs.parser.Parser.expect_sign.Goals as goal

pub returns-then-not-sees_sign-clause-run : goal.returns-then-not-sees_sign-clause-run
returns-then-not-sees_sign-clause-run c = λ k. no_sign c.args.sign c.args.self.now k cc

pub returns-in_err-take_sign-clause-run : goal.returns-in_err-take_sign-clause-run
returns-in_err-take_sign-clause-run c = λ k.
    at_exit c.from_residual.result _ c.from_residual.ensures.1 _ _ _ _ refl (c.in_err-take_sign.ensures.run (this_sign c.args.sign) [] (reads_sign c.args.sign) k)

pub returns-clause-tree : goal.returns-clause-tree
returns-clause-tree c = placed_token c.in_ok-take_sign.ensures.tree

pub returns-clause-run : goal.returns-clause-run
returns-clause-run c = λ k. c.in_ok-take_sign.ensures.run (this_sign c.args.sign) [] (reads_sign c.args.sign) k
