use Rattle.std.proofs.Common.{All, map, take}
use Rattle.tcel_core.specs.Parts.{plain_parts}
use Rattle.tcel_core.specs.Plain.{plain_task}
use Rattle.tcel_demand.specs.Sound.{IsSoundPlan}
use Rattle.tcel_driver.specs.Forms.{AreCosted}
use Rattle.tcel_driver.proofs.costing.cost_all.Given as goal

abbrev pub invariant-loop-number : goal.invariant-loop-number
invariant-loop-number l = record {
  costed : AreCosted l.costs (map plain_task (take l.number l.tasks)) (map plain_parts (take l.number l.parts)) l.whole l.sliced;
  at_once : All IsSoundPlan l.whole;
  in_parts : All IsSoundPlan l.sliced;
}
