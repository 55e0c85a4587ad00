use Rattle.std.proofs.Common.{sym, ◌∙◌}
use Rattle.tcel_core.specs.Plain.{plain_body}
use Rattle.tcel_flow.proofs.Nesting.{answers, found_there, none_left}
use Rattle.tcel_flow.proofs.around.stands_around.Goals as goal

pub returns-then-id-item : goal.returns-then-id-item
returns-then-id-item c =
    sym (found_there c.args.item c.args.test c.loop-step.depth c.loop-step.step-index c.in-Item.id c.in-Item.reads c.in-Item.writes c.in-Item.event _ c.as_slice-step-items.result.now c.if-depth-gt0.true c.loop-step-test.true c.in-Item.is c.if-id-item.true)
    ∙ (c.loop-step.invariant.same ∙ answers (plain_body c.args.task.now.body) c.args.item c.args.test c.args.flow.now.shape c.requires)

pub returns : goal.returns
returns c =
    sym (none_left c.args.item c.args.test c.loop-step.depth c.loop-step.step-index c.as_slice-step-items.result.now c.loop-step-test.false)
    ∙ (c.loop-step.invariant.same ∙ answers (plain_body c.args.task.now.body) c.args.item c.args.test c.args.flow.now.shape c.requires)
