use Rattle.std.proofs.Common.{◌≡◌, ◌-◌, ◌≤◌}
use Rattle.tcel_image.specs.Spelling.{state_words}
use Rattle.tcel_image.specs.Reading.{states_from}
use Rattle.tcel_image.proofs.Loops.{with_front}
use Rattle.tcel_image.proofs.reading.states_from.Given as goal

abbrev pub invariant-loop : goal.invariant-loop
invariant-loop l = record {
  read : with_front l.states.items (states_from l.used (l.count - l.counter) l.rest) ≡ states_from 0 l.count l.bytes;
  words : l.used ≡ state_words l.states.items;
  most : l.used ≤ 4096;
}
