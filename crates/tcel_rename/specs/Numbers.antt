-- The variables that slicing adds, and their numbers, as lists by number.
use Rattle.std.specs.Prelude.{◌≡◌, ℕ, ◌+◌, Bool, true, List, [], ◌∷◌, length, map, filter, flat_map, None, pos, slice_index_or, if◌then◌else◌}
use Rattle.std.specs.List.{list_any}
use Rattle.tcel_core.specs.declared.var.Keep.{Keep}
use Rattle.tcel_core.specs.declared.var.Var.{Var}
use Rattle.tcel_core.specs.declared.var.VarKind.{VarKind}
use Rattle.tcel_core.specs.Numbering.{numbers_from}
use Rattle.tcel_core.specs.Parts.{all_variables, inside_number, kind_of, number_of, saved, truth_of}
use Rattle.tcel_core.specs.Kinds.{Slicing, is_live}
use Rattle.tcel_core.specs.Paths.{points}
use Rattle.tcel_rename.specs.declared.numbers.Numbers.{Numbers}
use Rattle.tcel_rename.specs.Renaming.{number_in}
use Rattle.tcel_rename.specs.Splits.{is_split_test}

-- a variable that slicing adds
abbrev pub temporary : VarKind → Var
temporary kind = record { name = None; kind = kind; keep = Keep.Temp; first = pos 0 }

-- one for each variable that is among these
abbrev pub temporaries : List Var → (ℕ → Bool) → List Var
temporaries own such = map (λ v. temporary (kind_of own v)) (filter such (numbers_from 0 (length own)))

-- one for the truth of a test, where there is such
abbrev pub truth : Bool → List Var
truth split = if split then temporary VarKind.Bool ∷ [] else []

-- where the variables of each number begin, behind so many
abbrev pub starts_of : ℕ → (ℕ → List Var) → ℕ → List ℕ
starts_of first added count = map (λ n. first + length (flat_map added (numbers_from 0 n))) (numbers_from 0 count)

-- the numbers that kept items name: of these many variables, those that have copies go by the copies
abbrev pub inside_numbers : (ℕ → Bool) → ℕ → ℕ → List ℕ
inside_numbers third count upto = map (λ v. if third v then count + length (filter third (numbers_from 0 v)) else v) (numbers_from 0 upto)

-- the numbers of a slicing: what kept items name, where what is saved behind each item begins, and the truths of tests
pub record AreNumbers (s : Slicing) (numbers : Numbers) : Type 0 where
  pub count : length numbers.inside ≡ length s.vars
  pub inside : (v : ℕ) → number_in numbers.inside v ≡ inside_number s v
  pub saved : (n v : ℕ) → is_live s n v ≡ true → number_of s (saved n v) ≡ slice_index_or numbers.starts n 0 + length (filter (is_live s n) (numbers_from 0 v))
  pub truths : (n : ℕ) → list_any (is_split_test s n) (points s.body) ≡ true → number_of s (truth_of n) ≡ slice_index_or numbers.truths n 0
  pub vars : numbers.vars ≡ all_variables s
