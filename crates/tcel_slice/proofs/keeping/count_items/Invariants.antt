use Rattle.std.proofs.Common.{◌≡◌, ◌+◌, ◌≤◌, drop}
use Rattle.tcel_slice.specs.Keeping.{items_in}
use Rattle.tcel_slice.proofs.keeping.count_items.Given as goal

abbrev pub invariant-loop-step : goal.invariant-loop-step
invariant-loop-step l = record { within : l.count ≤ l.step-index; same : l.count + items_in (drop l.step-index l.steps) ≡ items_in l.steps }
