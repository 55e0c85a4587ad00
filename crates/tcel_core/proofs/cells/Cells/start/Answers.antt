use Rattle.std.proofs.Common.{◌≡◌, ◌∙◌, ap, length, subst}
use Rattle.tcel_core.specs.Cells.{all_words}
use Rattle.tcel_core.specs.Frames.{declared_state}
use Rattle.tcel_core.proofs.StateWords.{length-declared_state, length-start_cells}
use Rattle.tcel_core.proofs.cells.Cells.start.Goals as goal

pub returns-clause-words : goal.returns-clause-words
returns-clause-words c =
    subst (λ vars. length c.in_ok-words.words.items ≡ all_words vars) c.as_slice.ensures
    (ap length c.in_ok-words.ensures ∙ length-start_cells c.as_slice.result.now (declared_state c.as_slice.result.now) (length-declared_state c.as_slice.result.now))
