use Rattle.std.proofs.Common.{◌≡◌, ◌+◌, drop}
use Rattle.tcel_core.specs.Cells.{all_words}
use Rattle.tcel_core.proofs.sizes.all_words.Given as goal

abbrev pub invariant-loop-var : goal.invariant-loop-var
invariant-loop-var l = l.words + all_words (drop l.var-index l.vars) ≡ all_words l.vars
