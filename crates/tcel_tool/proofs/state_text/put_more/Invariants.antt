use Rattle.std.proofs.Common.{◌≡◌, ◌-◌, ◌++◌, take, drop}
use Rattle.tcel_trace.specs.Pieces.{more_numbers}
use Rattle.tcel_tool.proofs.state_text.put_more.Given as goal

abbrev pub invariant-loop-place : goal.invariant-loop-place
invariant-loop-place l =
    l.out.items ++ more_numbers (take (l.to - l.place) (drop l.place l.cells)) ≡ l.fn.out.items ++ more_numbers (take (l.to - l.from) (drop l.from l.cells))
