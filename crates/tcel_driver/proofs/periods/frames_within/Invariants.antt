use Rattle.std.proofs.Common.{◌≡◌, ◌*◌, ◌≤◌, ◌^◌, map, take}
use Rattle.tcel_core.specs.Plain.{plain_task}
use Rattle.tcel_driver.specs.Forms.{frames_within}
use Rattle.tcel_driver.proofs.periods.frames_within.Given as goal

abbrev pub invariant-loop-task : goal.invariant-loop-task
invariant-loop-task l = record {
  so_far : l.frames ≡ frames_within (map plain_task (take l.task-index l.tasks)) l.hyper;
  small : l.frames ≤ l.task-index * 10 ^ 12;
}
