use Rattle.tcel_cost.proofs.CostRooms.{first_fits}
use Rattle.tcel_cost.proofs.numbers.rounds.Goals as goal

pub from_start-requires : goal.from_start-requires
from_start-requires c =
    first_fits c.args.turns c.args.round c.saturating_sub-before.result c.quiet_rounds.result c.requires c.saturating_sub-before.ensures c.quiet_rounds.ensures
