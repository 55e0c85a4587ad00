-- What is seen of a shelf, and what a load does to it and to the vector that it fills.
use Rattle.std.specs.Prelude.{◌≡◌, ℕ, ◌≤◌, List, ◌++◌, Option, IfSome, Result, length}
use Rattle.tcel_io.specs.Load.{Load, entries_of}
use Rattle.tcel_io.specs.declared.shelf.LoadFail.{LoadFail}

-- the bytes under each name, where they are told, and the loads so far, the first of them first
pub record SeenShelf : Type 0 where
  pub told : List ℕ → Option (List ℕ)
  pub loads : List Load

-- a load with this result leaves all told bytes, and adds its entry at the list's end; one that ran out of memory has none
abbrev pub after_load : {T : Type 0} → List ℕ → ℕ → Result T LoadFail → SeenShelf → SeenShelf
after_load name limit result shelf = record { told = shelf.told; loads = shelf.loads ++ entries_of name limit result }

-- the bytes of a file were added at the end: at most so many, and the told ones where they are told
pub record Appends (told : Option (List ℕ)) (limit : ℕ) (old new : List ℕ) : Type 0 where
  pub bytes : List ℕ
  pub at_end : new ≡ old ++ bytes
  pub within : length bytes ≤ limit
  pub exact : IfSome told (λ all. bytes ≡ all)
