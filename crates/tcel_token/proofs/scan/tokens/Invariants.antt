use Rattle.std.proofs.Common.{◌-◌, length}
use Rattle.tcel_token.proofs.Scanning.{IsRead}
use Rattle.tcel_token.proofs.scan.tokens.Given as goal

abbrev pub invariant-loop-start : goal.invariant-loop-start
invariant-loop-start l = IsRead l.text l.start l.at l.list

abbrev pub decreases-loop-start : goal.decreases-loop-start
decreases-loop-start l = length l.text - l.start
