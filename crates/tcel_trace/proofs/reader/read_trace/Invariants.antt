use Rattle.std.proofs.Common.{◌≡◌, ◌+◌, ◌≤◌, ◌++◌, length, All}
use Rattle.std.specs.List.{flat_map}
use Rattle.tcel_trace.specs.TraceForm.{LineFits, line_text}
use Rattle.tcel_trace.proofs.reader.read_trace.Given as goal

abbrev pub invariant-loop-rest : goal.invariant-loop-rest
invariant-loop-rest l = record {
  counted : l.number ≡ length l.lines.items;
  left : l.number + length l.rest ≤ length l.bytes;
  fit : All LineFits l.lines.items;
  so_far : l.bytes ≡ flat_map line_text l.lines.items ++ l.rest;
}

abbrev pub decreases-loop-rest : goal.decreases-loop-rest
decreases-loop-rest l = length l.rest
