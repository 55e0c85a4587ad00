use Rattle.tcel_gen.proofs.GeneratedImages.{keep_abreast, runs_meet}
use Rattle.tcel_gen.proofs.laws.runs_meet_their_source.Goals as goal

pub returns : goal.returns
returns c = record { meet = runs_meet; abreast = keep_abreast }
