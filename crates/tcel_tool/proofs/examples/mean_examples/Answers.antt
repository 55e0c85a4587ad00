use Rattle.std.proofs.Common.{refl}
use Rattle.tcel_tool.proofs.MeanExamples.{alarm-text, both-text}
use Rattle.tcel_tool.proofs.examples.mean_examples.Goals as goal

pub returns : goal.returns
returns c = record { alarm = alarm-text; no_frames = refl; both = both-text }
