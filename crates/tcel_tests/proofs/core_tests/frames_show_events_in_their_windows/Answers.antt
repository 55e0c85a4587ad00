use Rattle.tcel_core.specs.Plain.{plain_task}
use Rattle.tcel_judge.proofs.Runs.{may_run}
use Rattle.tcel_tests.proofs.core_tests.frames_show_events_in_their_windows.Goals as goal

pub frame-requires-clause-variables : goal.frame-requires-clause-variables
frame-requires-clause-variables g c = (may_run (plain_task c.in_ok-task.task) c.in_ok-task.ensures).few

pub frame-requires-clause-fits : goal.frame-requires-clause-fits
frame-requires-clause-fits g c = (may_run (plain_task c.in_ok-task.task) c.in_ok-task.ensures).fits

pub frame-requires-2-clause-variables : goal.frame-requires-2-clause-variables
frame-requires-2-clause-variables g c = (may_run (plain_task c.in_ok-task.task) c.in_ok-task.ensures).few

pub frame-requires-2-clause-fits : goal.frame-requires-2-clause-fits
frame-requires-2-clause-fits g c = (may_run (plain_task c.in_ok-task.task) c.in_ok-task.ensures).fits
