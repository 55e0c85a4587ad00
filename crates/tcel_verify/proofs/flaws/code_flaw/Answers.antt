use Rattle.tcel_verify.proofs.FlawOrder.{passed_line, none_in_code}
use Rattle.tcel_verify.proofs.flaws.code_flaw.Goals as goal

pub loop-place-preserved : goal.loop-place-preserved
loop-place-preserved c =
    passed_line c.args.task.now c.as_slice-line-items.result.now c.loop-place.place _ c.as_slice-line-items.ensures c.loop-place-test.true
    c.loop-place.invariant c.in_default.ensures

pub returns : goal.returns
returns c =
    none_in_code c.args.task.now c.as_slice-line-items.result.now c.loop-place.place c.as_slice-line-items.ensures c.loop-place-test.false
    c.loop-place.invariant
