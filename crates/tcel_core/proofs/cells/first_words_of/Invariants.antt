use Rattle.std.proofs.Common.{◌≡◌, ◌++◌, drop}
use Rattle.tcel_core.specs.Frames.{declared_state}
use Rattle.tcel_core.proofs.cells.first_words_of.Given as goal

abbrev pub invariant-loop-var : goal.invariant-loop-var
invariant-loop-var l = l.words.items ++ declared_state (drop l.var-index l.vars) ≡ declared_state l.vars
