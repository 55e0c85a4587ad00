use Rattle.std.proofs.Common.{refl}
use Rattle.tcel_grammar.specs.Programs.{set_true, set_false}
use Rattle.tcel_grammar.specs.Machine.{first_bool}
use Rattle.tcel_parse.specs.Reading.{left}
use Rattle.tcel_parse.proofs.Heads.{stop_here, placed_token}
use Rattle.tcel_parse.proofs.Options.{no_first_bool}
use Rattle.tcel_parse.proofs.Reaches.{at_exit}
use Rattle.tcel_parse.proofs.parser.Parser.first_bool.Goals as goal

pub returns-in_err-take_word-clause-run : goal.returns-in_err-take_word-clause-run
returns-in_err-take_word-clause-run c =
    λ k. at_exit c.from_residual.result _ c.from_residual.ensures.1 _ _ _ _ (refl) (c.in_err-take_word.ensures.run first_bool _ refl k)

pub returns-in_ok-take_word-clause-tree : goal.returns-in_ok-take_word-clause-tree
returns-in_ok-take_word-clause-tree c =
    λ before d. set_true d (placed_token c.in_ok-take_word.ensures.tree)

pub returns-in_ok-take_word-clause-run : goal.returns-in_ok-take_word-clause-run
returns-in_ok-take_word-clause-run c =
    λ k. c.in_ok-take_word.ensures.run first_bool _ refl k

pub returns-in_err-take_word-2-clause-run : goal.returns-in_err-take_word-2-clause-run
returns-in_err-take_word-2-clause-run c =
    λ k. at_exit c.from_residual-in_err-take_word-2.result _ c.from_residual-in_err-take_word-2.ensures.1 _ _ _ _ (refl) (c.in_err-take_word-2.ensures.run first_bool _ refl k)

pub returns-in_ok-take_word-2-clause-tree : goal.returns-in_ok-take_word-2-clause-tree
returns-in_ok-take_word-2-clause-tree c =
    λ before d. set_false d (placed_token c.in_ok-take_word-2.ensures.tree)

pub returns-in_ok-take_word-2-clause-run : goal.returns-in_ok-take_word-2-clause-run
returns-in_ok-take_word-2-clause-run c =
    λ k. c.in_ok-take_word-2.ensures.run first_bool _ refl k

pub returns-else-sees_word-2-clause-run : goal.returns-else-sees_word-2-clause-run
returns-else-sees_word-2-clause-run c =
    λ k. stop_here c.args.self.now first_bool k (no_first_bool (left c.args.self.now) (cc) (cc))
