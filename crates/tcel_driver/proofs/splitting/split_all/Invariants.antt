use Rattle.std.proofs.Common.{map, take}
use Rattle.tcel_core.specs.Parts.{plain_parts}
use Rattle.tcel_core.specs.Plain.{plain_task}
use Rattle.tcel_driver.specs.Forms.{AreSplit}
use Rattle.tcel_driver.proofs.splitting.split_all.Given as goal

abbrev pub invariant-loop-number : goal.invariant-loop-number
invariant-loop-number l = AreSplit (map plain_task (take l.number l.tasks)) (map plain_parts l.all)
