-- What an object may tell, and goes on telling.
use Rattle.std.specs.Prelude.{Option, Some, None, ⊤}

-- what was told before is told after, and the two stand in this relation
abbrev pub StaysTold : {A : Type 0} → (A → A → Type 0) → Option A → Option A → Type 0
StaysTold Relation None new = ⊤
StaysTold Relation (Some old) None = ⊥
StaysTold Relation (Some old) (Some new) = Relation old new
