use Rattle.std.proofs.Common.{take}
use Rattle.toml.specs.View.{table_view}
use Rattle.tcel_target.specs.Costs.{all_keys}
use Rattle.tcel_target.proofs.Values.{AreGivenAt}
use Rattle.tcel_target.proofs.read.listed_costs.Given as goal

abbrev pub invariant-loop-key : goal.invariant-loop-key
invariant-loop-key l = AreGivenAt (table_view l.table) l.costs (take l.key-index all_keys)
