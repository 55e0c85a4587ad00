-- What the lists of a task's inputs have left.
use Rattle.std.specs.Prelude.{ℕ, ℤ, List, [], ◌∷◌, drop, Vec}
use Rattle.std.specs.declared.alloc.Global.{Global}

-- each list without the values that are taken from it
abbrev pub left_of : List (Vec ℤ Global) → List ℕ → List (List ℤ)
left_of [] taken = []
left_of (list ∷ lists) [] = list.items ∷ left_of lists []
left_of (list ∷ lists) (n ∷ taken) = drop n list.items ∷ left_of lists taken
