use Rattle.std.proofs.Common.{◌≡◌, ◌++◌, drop}
use Rattle.tcel_tool.specs.Report.{points_text}
use Rattle.tcel_tool.proofs.report.put_points.Given as goal

abbrev pub invariant-loop-number : goal.invariant-loop-number
invariant-loop-number l = l.out.items ++ points_text l.worst l.number (drop l.number l.points) ≡ l.fn.out.items ++ points_text l.worst 0 l.points
