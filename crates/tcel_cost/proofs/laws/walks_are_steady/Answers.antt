use Rattle.tcel_cost.proofs.SteadyWalks.{block_steady}
use Rattle.tcel_cost.proofs.laws.walks_are_steady.Goals as goal

pub returns : goal.returns
returns c = record { law = block_steady }
