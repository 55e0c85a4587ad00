use Rattle.std.proofs.Common.{◌≡◌, [], take}
use Rattle.tcel_script.specs.Rows.{rows_of}
use Rattle.tcel_script.proofs.row.empty_rows.Given as goal

abbrev pub invariant-loop-row : goal.invariant-loop-row
invariant-loop-row l = l.rows.items ≡ rows_of (take l.row-index l.ports) []
