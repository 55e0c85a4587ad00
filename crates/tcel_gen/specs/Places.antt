-- Where the words of variables begin, as numbers that are looked up.
use Rattle.std.specs.Prelude.{◌≡◌, ℕ, ◌+◌, ◌≤◌, List, [], ◌∷◌}
use Rattle.tcel_core.specs.declared.var.Var.{Var}
use Rattle.tcel_core.specs.Cells.{all_words, words_of}
use Rattle.tcel_gen.specs.declared.places.Places.TheInside.{Inside}

-- from a word on, where each variable begins, and where the last one ends
abbrev pub starts_from : ℕ → List Var → List ℕ
starts_from first [] = first ∷ []
starts_from first (v ∷ vars) = first ∷ starts_from (first + words_of v.kind) vars

abbrev pub variables_of : Inside → List Var
variables_of a = a.vars.now

pub record AreStarts (a : Inside) : Type 0 where
  pub all : a.starts ≡ starts_from 0 a.vars.now
  pub few : all_words a.vars.now ≤ 65536
