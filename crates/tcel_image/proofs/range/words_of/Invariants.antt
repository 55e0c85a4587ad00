use Rattle.std.proofs.Common.{◌≡◌, ◌≤◌, take}
use Rattle.tcel_image.specs.Spelling.{state_words}
use Rattle.tcel_image.proofs.range.words_of.Given as goal

abbrev pub invariant-loop-state : goal.invariant-loop-state
invariant-loop-state l = (l.words ≡ state_words (take l.state-index l.states)) × (l.words ≤ 4096)
