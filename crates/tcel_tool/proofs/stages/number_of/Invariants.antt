use Rattle.std.proofs.Common.{◌≡◌, ◌^◌, ◌<◌, take}
use Rattle.tcel_script.specs.Numbers.{magnitude}
use Rattle.tcel_tool.proofs.stages.number_of.Given as goal

abbrev pub invariant-loop-byte : goal.invariant-loop-byte
invariant-loop-byte l = record {
  value : l.number ≡ magnitude (take l.byte-index l.word);
  small : l.number < 10 ^ l.byte-index;
}
