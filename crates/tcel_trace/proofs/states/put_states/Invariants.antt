use Rattle.std.proofs.Common.{◌≡◌, ◌+◌, ◌*◌, ◌≤◌, ◌++◌, length, drop}
use Rattle.tcel_image.specs.Spelling.{state_words}
use Rattle.tcel_image.specs.TraceText.{states_text}
use Rattle.tcel_trace.proofs.states.put_states.Given as goal

abbrev pub invariant-loop-state : goal.invariant-loop-state
invariant-loop-state l = record {
  bytes : l.buffer.bytes ++ states_text (drop l.state-index l.states) l.left ≡ l.fn.buffer.bytes ++ states_text l.states l.words;
  short : length l.buffer.bytes + 21 * state_words (drop l.state-index l.states) ≤ length l.fn.buffer.bytes + 54 * l.state-index + 21 * state_words l.states;
  room : l.fn.buffer.room ≤ l.buffer.room;
}
