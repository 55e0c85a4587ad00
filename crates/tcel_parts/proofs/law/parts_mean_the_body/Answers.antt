use Rattle.tcel_parts.proofs.Assembly.{parts_mean_the_body}
use Rattle.tcel_parts.proofs.law.parts_mean_the_body.Goals as goal

pub returns : goal.returns
returns c = record { law = parts_mean_the_body }
