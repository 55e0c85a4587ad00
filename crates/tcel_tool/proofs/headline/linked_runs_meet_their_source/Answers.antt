use Rattle.tcel_tool.proofs.LinkedRuns.{linked_runs_meet}
use Rattle.tcel_tool.proofs.headline.linked_runs_meet_their_source.Goals as goal

pub returns : goal.returns
returns c = linked_runs_meet
