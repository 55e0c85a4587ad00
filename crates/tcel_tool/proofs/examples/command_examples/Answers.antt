use Rattle.tcel_tool.proofs.CommandExamples.{again_line, cells_line, deep_line, fault_line, frames_line, late_line, limit_line, long_line, made_line, unexpected_line}
use Rattle.tcel_tool.proofs.examples.command_examples.Goals as goal

pub returns-clause-line : goal.returns-clause-line
returns-clause-line c = unexpected_line

pub returns-clause-again : goal.returns-clause-again
returns-clause-again c = again_line

pub returns-clause-deep : goal.returns-clause-deep
returns-clause-deep c = deep_line

pub returns-clause-fault : goal.returns-clause-fault
returns-clause-fault c = fault_line

pub returns-clause-limit : goal.returns-clause-limit
returns-clause-limit c = limit_line

pub returns-clause-late : goal.returns-clause-late
returns-clause-late c = late_line

pub returns-clause-cells : goal.returns-clause-cells
returns-clause-cells c = cells_line

pub returns-clause-long : goal.returns-clause-long
returns-clause-long c = long_line

pub returns-clause-made : goal.returns-clause-made
returns-clause-made c = made_line

pub returns-clause-frames : goal.returns-clause-frames
returns-clause-frames c = frames_line
