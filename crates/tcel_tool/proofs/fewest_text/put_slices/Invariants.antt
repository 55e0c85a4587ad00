use Rattle.std.proofs.Common.{◌≡◌, ◌++◌, drop}
use Rattle.std.specs.List.{flat_map}
use Rattle.tcel_tool.specs.FewestText.{slice_line}
use Rattle.tcel_tool.proofs.fewest_text.put_slices.Given as goal

abbrev pub invariant-loop-name : goal.invariant-loop-name
invariant-loop-name l = l.out.items ++ flat_map slice_line (drop l.name-index l.names) ≡ l.fn.out.items ++ flat_map slice_line l.names
