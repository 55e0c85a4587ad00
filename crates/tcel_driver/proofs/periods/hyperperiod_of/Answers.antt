use Rattle.std.proofs.Common.{◌≡◌, ◌∷◌, ◌++◌, [], All, sym, ◌∙◌, subst}
use Rattle.tcel_num.specs.Hyperperiod.{IsLeastCommonMultiple}
use Rattle.tcel_core.specs.Plain.{plain_task}
use Rattle.tcel_driver.proofs.SamePeriods.{IsPeriod, long_forbids, times_step}
use Rattle.tcel_driver.proofs.periods.hyperperiod_of.Goals as goal

pub lcm_within-requires-clause-periods : goal.lcm_within-requires-clause-periods
lcm_within-requires-clause-periods c =
    let task = c.index-tasks-number.result in
    let pushed : c.deref.result.now ≡ c.loop-number.periods.items ++ task.period ∷ [] = c.deref.ensures.value ∙ c.in_ok-push.ensures.items in
    subst (All IsPeriod) (sym pushed)
    (times_step plain_task c.args.tasks.now c.requires c.loop-number.periods.items c.loop-number.number task c.loop-number-test.true c.index-tasks-number.is c.loop-number.invariant.are)

pub returns-in_default-clause-refused : goal.returns-in_default-clause-refused
returns-in_default-clause-refused c =
    let task = c.index-tasks-number.result in
    let pushed : c.deref.result.now ≡ c.loop-number.periods.items ++ task.period ∷ [] = c.deref.ensures.value ∙ c.in_ok-push.ensures.items in
    let above = c.in_default.ensures.above in
    let with_it = subst (λ l. IsLeastCommonMultiple l above.0) pushed above.1 in
    long_forbids plain_task c.args.tasks.now c.loop-number.number task c.loop-number.periods.items c.loop-number.hyper above.0 c.loop-number-test.true c.index-tasks-number.is c.loop-number.invariant.are
    c.loop-number.invariant.least c.loop-number.invariant.most with_it above.2
