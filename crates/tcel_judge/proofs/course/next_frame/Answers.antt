use Rattle.tcel_core.specs.Plain.{plain_task}
use Rattle.tcel_judge.proofs.Runs.{may_run}
use Rattle.tcel_judge.proofs.course.next_frame.Goals as goal

pub frame-requires-clause-variables : goal.frame-requires-clause-variables
frame-requires-clause-variables c = (may_run (plain_task c.args.task.now) c.requires.sound).few

pub frame-requires-clause-fits : goal.frame-requires-clause-fits
frame-requires-clause-fits c = (may_run (plain_task c.args.task.now) c.requires.sound).fits
