use Rattle.std.proofs.Common.{◌≡◌, ◌+◌, drop}
use Rattle.tcel_core.specs.Frames.{state_words}
use Rattle.tcel_core.proofs.sizes.state_words.Given as goal

abbrev pub invariant-loop-var : goal.invariant-loop-var
invariant-loop-var l = l.words + state_words (drop l.var-index l.vars) ≡ state_words l.vars
