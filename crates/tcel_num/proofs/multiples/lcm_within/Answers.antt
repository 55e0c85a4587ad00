use Rattle.std.proofs.Common.{take, get_or, arith, subst, sym}
use Rattle.std.proofs.lemmas.List.{take_more}
use Rattle.tcel_num.specs.Hyperperiod.{IsLeastCommonMultiple}
use Rattle.tcel_num.proofs.CommonMultiples.{joined, above}
use Rattle.tcel_num.proofs.multiples.lcm_within.Goals as goal

pub returns-in_err-multiple-clause-above : goal.returns-in_err-multiple-clause-above
returns-in_err-multiple-clause-above c =
    rw c.from_residual.ensures
    (above c.args.periods.now c.loop-period.period-index c.loop-period.multiple c.args.limit (omega arith)
    (λ k d at. (c.requires.periods k d at).0) c.loop-period.invariant c.in_err-multiple.ensures.above)

pub loop-period-preserved : goal.loop-period-preserved
loop-period-preserved c =
    let more = take_more c.args.periods.now c.loop-period.period-index 0 (omega arith) in
    let next = joined (take c.loop-period.period-index c.args.periods.now) c.loop-period.multiple (get_or c.args.periods.now c.loop-period.period-index 0) c.in_ok-multiple.multiple c.loop-period.invariant c.in_ok-multiple.ensures.value in
    subst (λ xs. IsLeastCommonMultiple xs c.in_ok-multiple.multiple) (sym more) next
