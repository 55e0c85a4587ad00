use Rattle.std.proofs.Common.{◌≡◌, length}
use Rattle.tcel_script.specs.Numbers.{numbers_of}
use Rattle.tcel_script.specs.Lines.{words}
use Rattle.tcel_script.proofs.Digits.{behind}
use Rattle.tcel_script.proofs.number.numbers_of.Given as goal

abbrev pub invariant-loop-word : goal.invariant-loop-word
invariant-loop-word l = numbers_of (words l.text) ≡ behind l.numbers.items (numbers_of (words l.rest))

abbrev pub decreases-loop-word : goal.decreases-loop-word
decreases-loop-word l = length l.rest
