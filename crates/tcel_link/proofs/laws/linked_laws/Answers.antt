use Rattle.tcel_link.proofs.DerivedFrames.{derived_frames_are_linked}
use Rattle.tcel_link.proofs.Samples.{receives_are_samples}
use Rattle.tcel_link.proofs.laws.linked_laws.Goals as goal

pub returns : goal.returns
returns c = record { samples = receives_are_samples; frames = derived_frames_are_linked }
