use Rattle.std.proofs.Common.{◌≡◌, ◌≤◌, drop}
use Rattle.tcel_flow.specs.Around.{is_around}
use Rattle.tcel_flow.proofs.around.stands_around.Given as goal

abbrev pub invariant-loop-step : goal.invariant-loop-step
invariant-loop-step l =
    record {
      within : l.depth ≤ l.step-index;
      same : is_around l.item l.test l.depth (drop l.step-index l.step-items) ≡ is_around l.item l.test 0 l.flow.shape;
    }
