use Rattle.std.proofs.Common.{length}
use Rattle.tcel_tool.proofs.fewest_text.+add_names.Given as goal

abbrev pub decreases-add_names : goal.decreases-add_names
decreases-add_names l = length l.tasks.now
