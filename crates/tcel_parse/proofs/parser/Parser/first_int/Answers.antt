use Rattle.std.proofs.Common.{refl, ◌∙◌, rules}
use Rattle.tcel_grammar.specs.Machine.{first_int}
use Rattle.tcel_parse.specs.Reading.{left}
use Rattle.tcel_parse.proofs.Heads.{stop_here, placed_token}
use Rattle.tcel_parse.proofs.Options.{no_first_int, number_set, number_below}
use Rattle.tcel_parse.proofs.Reaches.{at_exit}
use Rattle.tcel_parse.proofs.parser.Parser.first_int.Goals as goal

pub returns-in_err-value-clause-run : goal.returns-in_err-value-clause-run
returns-in_err-value-clause-run c =
    λ k. at_exit c.from_residual.result _ c.from_residual.ensures.1 _ _ _ _ (refl) (c.in_err-value.ensures.run first_int _ refl k)

pub returns-in_ok-value-clause-tree : goal.returns-in_ok-value-clause-tree
returns-in_ok-value-clause-tree c =
    λ before d. number_set d c.in_ok-value.ensures.tree _ (search rules)

pub returns-in_ok-value-clause-run : goal.returns-in_ok-value-clause-run
returns-in_ok-value-clause-run c =
    λ k. c.in_ok-value.ensures.run first_int _ refl k

pub returns-in_err-take_sign-clause-run : goal.returns-in_err-take_sign-clause-run
returns-in_err-take_sign-clause-run c =
    λ k. at_exit c.from_residual-in_err-take_sign.result _ c.from_residual-in_err-take_sign.ensures.1 _ _ _ _ (refl) (c.in_err-take_sign.ensures.run first_int _ refl k)

pub returns-in_err-below-clause-run : goal.returns-in_err-below-clause-run
returns-in_err-below-clause-run c =
    λ k. at_exit c.from_residual-in_err-below.result _ c.from_residual-in_err-below.ensures.1 _ _ _ _ (c.in_ok-take_sign.ensures.run first_int _ refl k) (c.in_err-below.ensures.run k)

pub returns-in_ok-below-clause-tree : goal.returns-in_ok-below-clause-tree
returns-in_ok-below-clause-tree c =
    λ before d. number_below d (placed_token c.in_ok-take_sign.ensures.tree) c.in_ok-below.ensures.tree c.opposite.result c.opposite.ensures _ (search rules)

pub returns-in_ok-below-clause-run : goal.returns-in_ok-below-clause-run
returns-in_ok-below-clause-run c =
    λ k. c.in_ok-take_sign.ensures.run first_int _ refl k ∙ c.in_ok-below.ensures.run k

pub returns-else-sees_sign-clause-run : goal.returns-else-sees_sign-clause-run
returns-else-sees_sign-clause-run c =
    λ k. stop_here c.args.self.now first_int k (no_first_int (left c.args.self.now) (cc) (cc))
