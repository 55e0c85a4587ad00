use Rattle.tcel_busy.proofs.StretchFacts.{first_of_all, none_higher, none_at_all}
use Rattle.tcel_busy.proofs.lateness.late.Goals as goal

pub returns-in-Some : goal.returns-in-Some
returns-in-Some c = first_of_all c.args.plans.now c.loop-task.task c.in-Some.late c.loop-task.invariant c.in-Some.ensures

pub loop-task-preserved : goal.loop-task-preserved
loop-task-preserved c = none_higher c.args.plans.now c.loop-task.task c.loop-task.invariant c.in_default.ensures

pub returns : goal.returns
returns c = none_at_all c.args.plans.now c.loop-task.task c.loop-task-test.false c.loop-task.invariant
