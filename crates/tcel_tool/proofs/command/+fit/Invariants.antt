use Rattle.std.proofs.Common.{length}
use Rattle.tcel_tool.proofs.command.+fit.Given as goal

abbrev pub decreases-fit : goal.decreases-fit
decreases-fit l = length l.slots.now
