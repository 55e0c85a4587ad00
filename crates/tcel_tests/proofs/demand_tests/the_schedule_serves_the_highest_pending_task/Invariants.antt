use Rattle.std.proofs.Common.{◌≡◌, length}
use Rattle.tcel_tests.proofs.demand_tests.the_schedule_serves_the_highest_pending_task.Given as goal

abbrev pub invariant-loop : goal.invariant-loop
invariant-loop g l = record {
  plans : length l.schedule.plans ≡ 2;
  ticks : l.schedule.ticks ≡ l.counter;
}
