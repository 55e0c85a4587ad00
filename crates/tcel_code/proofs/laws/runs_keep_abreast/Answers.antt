use Rattle.tcel_code.proofs.Abreast.{runs_keep_abreast}
use Rattle.tcel_code.proofs.laws.runs_keep_abreast.Goals as goal

pub returns : goal.returns
returns c = record { law = runs_keep_abreast }
