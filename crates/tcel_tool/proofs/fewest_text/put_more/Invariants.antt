use Rattle.std.proofs.Common.{◌≡◌, ◌++◌, drop}
use Rattle.std.specs.List.{flat_map}
use Rattle.tcel_tool.specs.FewestText.{plus_name}
use Rattle.tcel_tool.proofs.fewest_text.put_more.Given as goal

abbrev pub invariant-loop-name : goal.invariant-loop-name
invariant-loop-name l = l.out.items ++ flat_map plus_name (drop l.name-index l.names) ≡ l.fn.out.items ++ flat_map plus_name l.names
