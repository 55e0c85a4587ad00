use Rattle.std.proofs.Common.{◌≡◌, take}
use Rattle.std.specs.List.{flat_map}
use Rattle.tcel_image.specs.declared.image.ImageState.{ImageState}
use Rattle.tcel_machine.proofs.start.first_words.Given as goal

abbrev pub invariant-loop-state : goal.invariant-loop-state
invariant-loop-state l = l.words.items ≡ flat_map (λ (state : ImageState). state.first) (take l.state-index l.states)
