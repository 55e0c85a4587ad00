use Rattle.tcel_show.proofs.Worked.{statements_written, task_written, tasks_written}
use Rattle.tcel_show.proofs.examples.text_examples.Goals as goal

pub returns-clause-statements : goal.returns-clause-statements
returns-clause-statements c = statements_written

pub returns-clause-task : goal.returns-clause-task
returns-clause-task c = task_written

pub returns-clause-tasks : goal.returns-clause-tasks
returns-clause-tasks c = tasks_written
