-- The list of loads that a shelf keeps.
use Rattle.std.specs.Prelude.{ℕ, Bool, true, false, List, [], ◌∷◌, Result, Ok, Err, count_by}
use Rattle.tcel_io.specs.declared.loaded.Outcome.{Outcome}
use Rattle.tcel_io.specs.declared.loaded.Outcome.TheVariants.{Done, Fault, TooLong}
use Rattle.tcel_io.specs.declared.shelf.LoadFail.{LoadFail}
use Rattle.tcel_io.specs.declared.shelf.LoadFail.TheVariants as fail

-- one load: the bytes of the name, the limit in bytes, and how the load ended
pub record Load : Type 0 where
  pub name : List ℕ
  pub limit : ℕ
  pub outcome : Outcome

-- what a load adds to the list: one entry, and none where memory ran out
abbrev pub entries_of : {T : Type 0} → List ℕ → ℕ → Result T LoadFail → List Load
entries_of name limit (Ok done) = record { name = name; limit = limit; outcome = Done } ∷ []
entries_of name limit (Err fail.Fault) = record { name = name; limit = limit; outcome = Fault } ∷ []
entries_of name limit (Err fail.TooLong) = record { name = name; limit = limit; outcome = TooLong } ∷ []
entries_of name limit (Err fail.NoMemory) = []

-- did the load end in a fault
abbrev pub is_fault : Outcome → Bool
is_fault Done = false
is_fault Fault = true
is_fault TooLong = false

-- the count of faults: how many loads ended in one
abbrev pub load_faults : List Load → ℕ
load_faults loads = count_by (λ load. is_fault load.outcome) loads
