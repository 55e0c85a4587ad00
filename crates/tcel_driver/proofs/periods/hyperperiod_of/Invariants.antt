use Rattle.std.proofs.Common.{◌≡◌, ◌≤◌, ◌^◌, map, take}
use Rattle.tcel_num.specs.Hyperperiod.{IsLeastCommonMultiple}
use Rattle.tcel_core.specs.Plain.{plain_task}
use Rattle.tcel_driver.specs.Forms.{task_periods}
use Rattle.tcel_driver.proofs.periods.hyperperiod_of.Given as goal

abbrev pub invariant-loop-number : goal.invariant-loop-number
invariant-loop-number l = record {
  are : l.periods.items ≡ task_periods (map plain_task (take l.number l.tasks));
  least : IsLeastCommonMultiple l.periods.items l.hyper;
  most : l.hyper ≤ 10 ^ 12;
}
