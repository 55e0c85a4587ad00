use Rattle.std.proofs.Common.{◌≡◌, true, false, refl, ◌∙◌}
use Rattle.tcel_grammar.specs.Programs.{a_local_truth, a_state_truth, unset_truth}
use Rattle.tcel_grammar.specs.Machine.{behind_bool}
use Rattle.tcel_parse.specs.Reading.{left}
use Rattle.tcel_parse.proofs.Heads.{placed_token}
use Rattle.tcel_parse.proofs.Options.{no_local_truth, no_truth, reads_truth}
use Rattle.tcel_parse.proofs.Reaches.{at_exit, reach_skips}
use Rattle.tcel_parse.proofs.parser.Parser.bool_end.Goals as goal

pub returns-then-not-state-clause-tree : goal.returns-then-not-state-clause-tree
returns-then-not-state-clause-tree c =
    let e : c.args.state ≡ false = cc in rw e a_local_truth

pub returns-then-not-state-clause-run : goal.returns-then-not-state-clause-run
returns-then-not-state-clause-run c =
    λ k. reach_skips c.args.self.now (behind_bool c.args.state) k (no_local_truth c.args.state (left c.args.self.now) (cc))

pub returns-then-not-sees_sign-clause-tree : goal.returns-then-not-sees_sign-clause-tree
returns-then-not-sees_sign-clause-tree c =
    let e : c.args.state ≡ true = cc in rw e (a_state_truth unset_truth)

pub returns-then-not-sees_sign-clause-run : goal.returns-then-not-sees_sign-clause-run
returns-then-not-sees_sign-clause-run c =
    λ k. reach_skips c.args.self.now (behind_bool c.args.state) k (no_truth c.args.state (left c.args.self.now) (cc))

pub returns-in_err-take_sign-clause-run : goal.returns-in_err-take_sign-clause-run
returns-in_err-take_sign-clause-run c =
    λ k. at_exit c.from_residual.result _ c.from_residual.ensures.1 _ _ _ _ (refl) (c.in_err-take_sign.ensures.run (behind_bool c.args.state) _ (reads_truth c.args.state (cc)) k)

pub returns-in_err-first-clause-run : goal.returns-in_err-first-clause-run
returns-in_err-first-clause-run c =
    λ k. at_exit c.from_residual-in_err-first.result _ c.from_residual-in_err-first.ensures.1 _ _ _ _ (c.in_ok-take_sign.ensures.run (behind_bool c.args.state) _ (reads_truth c.args.state (cc)) k) (c.in_err-first.ensures.run k)

pub returns-clause-tree : goal.returns-clause-tree
returns-clause-tree c =
    let e : c.args.state ≡ true = cc in rw e (a_state_truth (c.in_ok-first.ensures.tree _ (placed_token c.in_ok-take_sign.ensures.tree)))

pub returns-clause-run : goal.returns-clause-run
returns-clause-run c =
    λ k. c.in_ok-take_sign.ensures.run (behind_bool c.args.state) _ (reads_truth c.args.state (cc)) k ∙ c.in_ok-first.ensures.run k
