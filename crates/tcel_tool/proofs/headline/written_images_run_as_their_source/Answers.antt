use Rattle.tcel_tool.proofs.Written.{are_taken, runs_meet}
use Rattle.tcel_tool.proofs.headline.written_images_run_as_their_source.Goals as goal

pub returns : goal.returns
returns c = record { headline = runs_meet; taken = are_taken }
