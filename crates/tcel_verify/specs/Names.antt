-- Names that stand twice in a list that is given in two parts.
use Rattle.std.specs.Prelude.{ℕ, Bool, false, ◌||◌, List, [], ◌∷◌, ◌++◌, map}
use Rattle.std.specs.List.{list_any}
use Rattle.tcel_image.specs.declared.image.ImageState.{ImageState}
use Rattle.tcel_image.specs.Validity.{same_name}

-- one of the names stands again behind it, among them or among the others
abbrev pub stands_again : List (List ℕ) → List (List ℕ) → Bool
stands_again [] others = false
stands_again (name ∷ names) others = list_any (same_name name) (names ++ others) || stands_again names others

-- the names of states
abbrev pub state_names : List ImageState → List (List ℕ)
state_names states = map (λ (state : ImageState). state.name) states
