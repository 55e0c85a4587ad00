use Rattle.std.proofs.Common.{◌≡◌}
use Rattle.tcel_demand.specs.Ticks.{Schedule}
use Rattle.tcel_judge.proofs.missing.schedule_after.Given as goal

abbrev pub invariant-loop : goal.invariant-loop
invariant-loop l = l.schedule ≡ (let s : Schedule = record { plans = l.plans; ticks = l.counter } in s)
