use Rattle.std.proofs.Common.{◌≡◌, true, false, ◌∷◌, refl, ◌∙◌, rules}
use Rattle.tcel_token.specs.declared.sign.Sign.{Sign}
use Rattle.tcel_grammar.specs.Programs.{an_array, a_local, a_state, unset}
use Rattle.tcel_grammar.specs.Machine.{this_sign, behind_int}
use Rattle.tcel_parse.specs.Reading.{left}
use Rattle.tcel_parse.proofs.Heads.{placed_token}
use Rattle.tcel_parse.proofs.Options.{no_local_value, no_value, reads_value, int_set}
use Rattle.tcel_parse.proofs.Reaches.{at_exit, reach_skips}
use Rattle.tcel_parse.proofs.parser.Parser.int_end.Goals as goal

pub returns-in_err-take_sign-clause-run : goal.returns-in_err-take_sign-clause-run
returns-in_err-take_sign-clause-run c =
    λ k. at_exit c.from_residual.result _ c.from_residual.ensures.1 _ _ _ _ (refl) (c.in_err-take_sign.ensures.run (behind_int c.args.state) _ refl k)

pub returns-in_err-length-clause-run : goal.returns-in_err-length-clause-run
returns-in_err-length-clause-run c =
    λ k. at_exit c.from_residual-in_err-length.result _ c.from_residual-in_err-length.ensures.1 _ _ _ _ (c.in_ok-take_sign.ensures.run (behind_int c.args.state) _ refl k) (c.in_err-length.ensures.run (this_sign Sign.RightSquare ∷ k))

pub returns-in_err-expect_sign-clause-run : goal.returns-in_err-expect_sign-clause-run
returns-in_err-expect_sign-clause-run c =
    λ k. at_exit c.from_residual-in_err-expect_sign.result _ c.from_residual-in_err-expect_sign.ensures.1 _ _ _ _ (c.in_ok-take_sign.ensures.run (behind_int c.args.state) _ refl k ∙ c.in_ok-length.ensures.run (this_sign Sign.RightSquare ∷ k)) (c.in_err-expect_sign.ensures.run k)

pub returns-then-sees_sign-clause-tree : goal.returns-then-sees_sign-clause-tree
returns-then-sees_sign-clause-tree c =
    an_array (placed_token c.in_ok-take_sign.ensures.tree) c.in_ok-length.ensures.tree c.in_ok-expect_sign.ensures.tree

pub returns-then-sees_sign-clause-run : goal.returns-then-sees_sign-clause-run
returns-then-sees_sign-clause-run c =
    λ k. c.in_ok-take_sign.ensures.run (behind_int c.args.state) _ refl k ∙ c.in_ok-length.ensures.run (this_sign Sign.RightSquare ∷ k) ∙ c.in_ok-expect_sign.ensures.run k

pub returns-then-not-state-clause-tree : goal.returns-then-not-state-clause-tree
returns-then-not-state-clause-tree c =
    let e : c.args.state ≡ false = cc in rw e a_local

pub returns-then-not-state-clause-run : goal.returns-then-not-state-clause-run
returns-then-not-state-clause-run c =
    λ k. reach_skips c.args.self.now (behind_int c.args.state) k (no_local_value c.args.state (left c.args.self.now) (cc) (cc))

pub returns-then-not-sees_sign-clause-tree : goal.returns-then-not-sees_sign-clause-tree
returns-then-not-sees_sign-clause-tree c =
    let e : c.args.state ≡ true = cc in rw e (a_state unset)

pub returns-then-not-sees_sign-clause-run : goal.returns-then-not-sees_sign-clause-run
returns-then-not-sees_sign-clause-run c =
    λ k. reach_skips c.args.self.now (behind_int c.args.state) k (no_value c.args.state (left c.args.self.now) (cc) (cc))

pub returns-in_err-take_sign-2-clause-run : goal.returns-in_err-take_sign-2-clause-run
returns-in_err-take_sign-2-clause-run c =
    λ k. at_exit c.from_residual-in_err-take_sign-2.result _ c.from_residual-in_err-take_sign-2.ensures.1 _ _ _ _ (refl) (c.in_err-take_sign-2.ensures.run (behind_int c.args.state) _ (reads_value c.args.state (cc)) k)

pub returns-in_err-first-clause-run : goal.returns-in_err-first-clause-run
returns-in_err-first-clause-run c =
    λ k. at_exit c.from_residual-in_err-first.result _ c.from_residual-in_err-first.ensures.1 _ _ _ _ (c.in_ok-take_sign-2.ensures.run (behind_int c.args.state) _ (reads_value c.args.state (cc)) k) (c.in_err-first.ensures.run k)

pub returns-clause-tree : goal.returns-clause-tree
returns-clause-tree c =
    int_set c.args.state (cc) (placed_token c.in_ok-take_sign-2.ensures.tree) c.in_ok-first.ensures.tree _ (search rules)

pub returns-clause-run : goal.returns-clause-run
returns-clause-run c =
    λ k. c.in_ok-take_sign-2.ensures.run (behind_int c.args.state) _ (reads_value c.args.state (cc)) k ∙ c.in_ok-first.ensures.run k
