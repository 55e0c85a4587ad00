use Rattle.tcel_verify.proofs.FlawOrder.{passed_task, none_in_image}
use Rattle.tcel_verify.proofs.flaws.first_flaw.Goals as goal

pub loop-number-preserved : goal.loop-number-preserved
loop-number-preserved c =
    passed_task c.args.image.now c.as_slice-tasks.result.now c.loop-number.number c.index-tasks-number.result c.as_slice-tasks.ensures c.loop-number-test.true
    c.index-tasks-number.is c.loop-number.invariant c.in_default.ensures

pub returns : goal.returns
returns c =
    none_in_image c.args.image.now c.as_slice-tasks.result.now c.loop-number.number c.as_slice-tasks.ensures c.loop-number-test.false
    c.loop-number.invariant
