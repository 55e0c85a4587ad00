-- The numbers that stand for a task's variables.
use Rattle.std.specs.Prelude.{ℕ, List, slice_index_or}

-- the number in a list at the variable's place, or past its end the variable's own
abbrev pub number_in : List ℕ → ℕ → ℕ
number_in numbers v = slice_index_or numbers v v
