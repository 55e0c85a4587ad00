use Rattle.std.proofs.Common.{◌≡◌, ◌++◌, drop}
use Rattle.std.specs.List.{flat_map}
use Rattle.tcel_core.specs.Plain.{plain_set}
use Rattle.tcel_tool.specs.FewestText.{fault_line}
use Rattle.tcel_tool.proofs.fewest_text.put_faults.Given as goal

abbrev pub invariant-loop-fault : goal.invariant-loop-fault
invariant-loop-fault l =
    l.out.items ++ flat_map (fault_line (plain_set l.set)) (drop l.fault-index l.faults) ≡ l.fn.out.items ++ flat_map (fault_line (plain_set l.set)) l.faults
