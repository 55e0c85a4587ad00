use Rattle.std.proofs.Common.{◌<◌, ◌≤◌, length, arith, inl, inr}
use Rattle.tcel_flow.specs.declared.step.Step.TheVariants as steps
use Rattle.tcel_flow.specs.Reaching.{reaching}
use Rattle.tcel_flow.proofs.Backward.{starts, past_item, past_choice, passes, passes_all}
use Rattle.tcel_flow.proofs.reaching.+reaching.Goals as goal

pub before_branch-loop-left-preserved-in-Item-1 : goal.before_branch-loop-left-preserved-in-Item-1
before_branch-loop-left-preserved-in-Item-1 t c =
    record {
      within = omega arith;
      goes =
          past_item (reaching c.args.question.now) c.args.steps.now c.args.count c.loop-left.left c.in-Item.id c.in-Item.reads c.in-Item.writes c.in-Item.event _ c.args.behind c.loop-left.known c.before_item-known.result
          c.loop-left-test.true (omega arith) c.in-Item.is c.before_item-known.ensures c.loop-left.invariant.goes;
    }

pub before_branch-loop-left-preserved : goal.before_branch-loop-left-preserved
before_branch-loop-left-preserved t c =
    record {
      within = omega arith;
      goes = past_choice (reaching c.args.question.now) c.args.steps.now c.args.count c.loop-left.left _ _ _ _ _ c.loop-left-test.true (omega arith) c.in-Close.is c.loop-left.invariant.goes c.before_choice-before.ensures.passes;
    }

pub before_branch-returns-in-Middle-clause-start : goal.before_branch-returns-in-Middle-clause-start
before_branch-returns-in-Middle-clause-start t c =
    elim c.in-Middle.is [
      | inl e ↦ starts (reaching c.args.question.now) c.args.steps.now c.loop-left.left steps.Middle _ c.loop-left-test.true (omega arith) e tt
      | inr o ↦ starts (reaching c.args.question.now) c.args.steps.now c.loop-left.left (steps.Open o.0 o.1) _ c.loop-left-test.true (omega arith) o.2 tt
    ]

pub before_branch-returns-in-Middle-2-clause-start : goal.before_branch-returns-in-Middle-2-clause-start
before_branch-returns-in-Middle-2-clause-start t c =
    elim c.in-Middle.is [
      | inl e ↦ starts (reaching c.args.question.now) c.args.steps.now c.loop-left.left steps.Middle _ c.loop-left-test.true (omega arith) e tt
      | inr o ↦ starts (reaching c.args.question.now) c.args.steps.now c.loop-left.left (steps.Open o.0 o.1) _ c.loop-left-test.true (omega arith) o.2 tt
    ]

pub before_choice-returns-then-open-eq0-clause-passes : goal.before_choice-returns-then-open-eq0-clause-passes
before_choice-returns-then-open-eq0-clause-passes t c =
    let middle = c.before_branch-middle.result.0 in
    let some : 0 < middle = omega arith in
    let most : middle ≤ length c.args.steps.now = omega arith in
    passes_all (reaching c.args.question.now) c.args.steps.now c.args.count middle c.before_branch-open.result.0 c.args.behind c.before_branch-middle.result.1 c.before_branch-open.result.1 c.if-open-eq0.true some most
    c.before_branch-middle.ensures.start c.before_branch-middle.ensures.goes c.before_branch-open.ensures.goes

pub before_choice-returns-clause-passes : goal.before_choice-returns-clause-passes
before_choice-returns-clause-passes t c =
    let middle = c.before_branch-middle.result.0 in
    let open_at = c.before_branch-open.result.0 in
    let some : 0 < middle = omega arith in
    let most : middle ≤ length c.args.steps.now = omega arith in
    let some_left : 0 < open_at = omega arith in
    let within : open_at ≤ length c.args.steps.now = omega arith in
    passes (reaching c.args.question.now) c.args.steps.now c.args.count middle open_at _ c.args.behind c.before_branch-middle.result.1 c.before_branch-open.result.1 c.before_test-known.result some most
    some_left within c.before_branch-middle.ensures.start c.before_branch-open.ensures.start c.before_branch-middle.ensures.goes c.before_branch-open.ensures.goes c.before_test-known.ensures
