use Rattle.std.proofs.Common.{◌≡◌, take}
use Rattle.tcel_check.proofs.numbers.Numbers.new.Given as goal

abbrev pub invariant-loop-name : goal.invariant-loop-name
invariant-loop-name l = l.set.keys ≡ take l.name-index l.names
