-- What is read out of a list.
use Rattle.std.proofs.Common.{◌≡◌, ℕ, ◌<◌, List, length, get_or, sym, ap, ◌∙◌, refl, Some}
use Rattle.std.specs.Prelude.{slice_get}
use Rattle.std.proofs.lemmas.Option.{slice_get_read}

-- an element that is seen as a plain value
pub plain_read : {X : Type 0} (items : List X) (i : ℕ) (inside item : X) → inside ≡ item → item ≡ get_or items i item → i < length items → slice_get items i ≡ Some inside
plain_read items i inside item view is at = slice_get_read items (length items) i item refl at is ∙ ap (λ p. Some p) (sym view)
