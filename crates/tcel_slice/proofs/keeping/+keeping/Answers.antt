use Rattle.std.proofs.Common.{◌<◌, ◌≤◌, length, arith, inl, inr}
use Rattle.tcel_flow.specs.declared.step.Step.TheVariants as steps
use Rattle.tcel_flow.proofs.Backward.{starts}
use Rattle.tcel_slice.specs.Keeping.{keeping}
use Rattle.tcel_slice.proofs.Walk.{keeps_item, keeps_choice, leaves_second, leaves_first, leaves}
use Rattle.tcel_slice.proofs.keeping.+keeping.Goals as goal

pub before_branch-loop-left-preserved-in-Item-1 : goal.before_branch-loop-left-preserved-in-Item-1
before_branch-loop-left-preserved-in-Item-1 t c =
    record {
      within = omega arith;
      keeps =
          keeps_item c.args.steps.now c.args.count c.loop-left.left c.in-Item.id c.in-Item.reads c.in-Item.writes c.in-Item.event _ c.args.behind c.args.list.now c.loop-left.needed c.loop-left.list c.before_item-needed.result
          c.before_item-needed.new.list c.loop-left-test.true (omega arith) c.in-Item.is c.loop-left.invariant.keeps c.before_item-needed.ensures;
    }

pub before_branch-loop-left-preserved : goal.before_branch-loop-left-preserved
before_branch-loop-left-preserved t c =
    record {
      within = omega arith;
      keeps =
          keeps_choice c.args.steps.now c.args.count c.loop-left.left c.before_choice-before.result.0 _ c.args.behind c.args.list.now c.loop-left.needed c.loop-left.list c.before_choice-before.result.1
          c.before_choice-before.new.list c.loop-left-test.true (omega arith) c.in-Close.is c.loop-left.invariant.keeps c.before_choice-before.ensures.leaves;
    }

pub before_branch-returns-in-Middle-clause-start : goal.before_branch-returns-in-Middle-clause-start
before_branch-returns-in-Middle-clause-start t c =
    elim c.in-Middle.is [
      | inl e ↦ starts keeping c.args.steps.now c.loop-left.left steps.Middle _ c.loop-left-test.true (omega arith) e tt
      | inr o ↦ starts keeping c.args.steps.now c.loop-left.left (steps.Open o.0 o.1) _ c.loop-left-test.true (omega arith) o.2 tt
    ]

pub before_branch-returns-in-Middle-2-clause-start : goal.before_branch-returns-in-Middle-2-clause-start
before_branch-returns-in-Middle-2-clause-start t c =
    elim c.in-Middle.is [
      | inl e ↦ starts keeping c.args.steps.now c.loop-left.left steps.Middle _ c.loop-left-test.true (omega arith) e tt
      | inr o ↦ starts keeping c.args.steps.now c.loop-left.left (steps.Open o.0 o.1) _ c.loop-left-test.true (omega arith) o.2 tt
    ]

pub before_choice-returns-then-middle-eq0-clause-leaves : goal.before_choice-returns-then-middle-eq0-clause-leaves
before_choice-returns-then-middle-eq0-clause-leaves t c =
    leaves_second c.args.steps.now c.args.count c.before_branch-middle.result.0 c.args.behind c.before_branch-middle.result.1 c.args.list.now c.before_branch-middle.new.list c.before_branch-middle.ensures.keeps c.if-middle-eq0.true

pub before_choice-returns-then-open-eq0-clause-leaves : goal.before_choice-returns-then-open-eq0-clause-leaves
before_choice-returns-then-open-eq0-clause-leaves t c =
    let middle = c.before_branch-middle.result.0 in
    let some : 0 < middle = omega arith in
    let most : middle ≤ length c.args.steps.now = omega arith in
    leaves_first c.args.steps.now c.args.count middle c.args.behind c.before_branch-middle.result.1 c.args.list.now c.before_branch-middle.new.list c.before_branch-middle.ensures.keeps c.before_branch-open.result.0
    c.before_branch-open.result.1 c.before_branch-open.new.list c.if-open-eq0.true some most c.before_branch-middle.ensures.start c.before_branch-open.ensures.keeps

pub before_choice-returns-clause-leaves : goal.before_choice-returns-clause-leaves
before_choice-returns-clause-leaves t c =
    let middle = c.before_branch-middle.result.0 in
    let open_at = c.before_branch-open.result.0 in
    let some : 0 < middle = omega arith in
    let most : middle ≤ length c.args.steps.now = omega arith in
    let some_left : 0 < open_at = omega arith in
    let within : open_at ≤ length c.args.steps.now = omega arith in
    leaves c.args.steps.now c.args.count middle c.args.behind c.before_branch-middle.result.1 c.args.list.now c.before_branch-middle.new.list c.before_branch-middle.ensures.keeps open_at _
    c.before_branch-open.result.1 c.before_test-needed.result c.before_branch-open.new.list some most some_left within c.before_branch-middle.ensures.start c.before_branch-open.ensures.start c.before_branch-open.ensures.keeps
    c.before_test-needed.ensures
