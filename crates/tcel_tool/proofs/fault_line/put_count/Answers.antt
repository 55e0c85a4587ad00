use Rattle.tcel_tool.proofs.fault_line.put_count.Goals as goal

pub returns-in-Ticks : goal.returns-in-Ticks
returns-in-Ticks g c = rw c.in-Ticks.is c.put_number.ensures

pub returns-in-MeanFrames : goal.returns-in-MeanFrames
returns-in-MeanFrames g c = rw c.in-MeanFrames.is c.put_number-in-MeanFrames.ensures

pub returns-in-MadeTasks : goal.returns-in-MadeTasks
returns-in-MadeTasks g c = rw c.in-MadeTasks.is c.put_number-in-MadeTasks.ensures

pub returns-in-FewestTasks : goal.returns-in-FewestTasks
returns-in-FewestTasks g c = rw c.in-FewestTasks.is c.put_number-in-FewestTasks.ensures
