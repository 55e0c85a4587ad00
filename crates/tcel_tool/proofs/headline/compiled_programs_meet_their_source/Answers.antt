use Rattle.tcel_tool.proofs.Promise.{promise}
use Rattle.tcel_tool.proofs.headline.compiled_programs_meet_their_source.Goals as goal

pub returns : goal.returns
returns c = record { headline = promise }
