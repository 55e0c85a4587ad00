use Rattle.std.proofs.Common.{◌≡◌, ◌+◌, ◌*◌, ◌≤◌, ◌++◌, length, drop}
use Rattle.tcel_trace.specs.Pieces.{more_numbers}
use Rattle.tcel_trace.proofs.numbers.put_more.Given as goal

abbrev pub invariant-loop-number : goal.invariant-loop-number
invariant-loop-number l = record {
  bytes : l.buffer.bytes ++ more_numbers (drop l.number-index l.numbers) ≡ l.fn.buffer.bytes ++ more_numbers l.numbers;
  short : length l.buffer.bytes ≤ length l.fn.buffer.bytes + 21 * l.number-index;
  room : l.fn.buffer.room ≤ l.buffer.room;
}
