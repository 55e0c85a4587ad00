use Rattle.std.proofs.Common.{◌≡◌, ℕ, ◌+◌, ◌<◌, ◌≤◌, length, take, drop, None}
use Rattle.tcel_script.specs.Lines.{script_lines}
use Rattle.tcel_script.specs.Script.{fault_at}
use Rattle.tcel_script.specs.Rows.{rows_of}
use Rattle.tcel_script.proofs.read.read_script.Given as goal

abbrev pub invariant-loop-rest : goal.invariant-loop-rest
invariant-loop-rest l = record {
  counted : l.number + length l.rest ≤ length l.bytes;
  left : script_lines l.rest ≡ drop l.number (script_lines l.bytes);
  rows_so_far : l.rows.items ≡ rows_of l.ports (take l.number (script_lines l.bytes));
  sound : (k : ℕ) → k < l.number → fault_at l.ports (script_lines l.bytes) k ≡ None;
}

abbrev pub decreases-loop-rest : goal.decreases-loop-rest
decreases-loop-rest l = length l.rest
