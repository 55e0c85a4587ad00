use Rattle.std.proofs.Common.{refl, []}
use Rattle.tcel_grammar.specs.Machine.{this_word}
use Rattle.tcel_parse.proofs.Heads.{no_word, reads_word, placed_token}
use Rattle.tcel_parse.proofs.Reaches.{at_exit}
use Rattle.tcel_parse.proofs.parser.Parser.expect_word.Goals as goal

pub returns-then-not-sees_word-clause-run : goal.returns-then-not-sees_word-clause-run
returns-then-not-sees_word-clause-run c = λ k. no_word c.args.word c.args.self.now k cc

pub returns-in_err-take_word-clause-run : goal.returns-in_err-take_word-clause-run
returns-in_err-take_word-clause-run c = λ k.
    at_exit c.from_residual.result _ c.from_residual.ensures.1 _ _ _ _ refl (c.in_err-take_word.ensures.run (this_word c.args.word) [] (reads_word c.args.word) k)

pub returns-clause-tree : goal.returns-clause-tree
returns-clause-tree c = placed_token c.in_ok-take_word.ensures.tree

pub returns-clause-run : goal.returns-clause-run
returns-clause-run c = λ k. c.in_ok-take_word.ensures.run (this_word c.args.word) [] (reads_word c.args.word) k
