use Rattle.std.proofs.Common.{◌≡◌}
use Rattle.tcel_demand.specs.Ticks.{Schedule}
use Rattle.tcel_demand.proofs.FirstLates.{IsFirstOf}
use Rattle.tcel_demand.proofs.PassedPlaces.{IsPassed}
use Rattle.tcel_demand.proofs.late.late_plain.Given as goal

abbrev pub invariant-loop : goal.invariant-loop
invariant-loop l = record {
  schedule : l.schedule ≡ (let s : Schedule = record { plans = l.plans; ticks = l.counter } in s);
  first : IsFirstOf l.plans (IsPassed l.plans l.counter) l.first;
}
