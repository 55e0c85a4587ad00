-- The first set of sliced tasks that fits, and what is wrong with each set before it.
use Rattle.std.specs.Prelude.{◌≡◌, ℕ, ◌+◌, ◌^◌, ◌<◌, ◌≤◌, ◌⊎◌, Bool, true, false, List, [], ◌∷◌, ◌++◌, Some, length, slice_get}
use Rattle.tcel_num.specs.Hyperperiod.{demand}
use Rattle.tcel_num.specs.Lateness.{IsFirstLate}
use Rattle.tcel_num.specs.Plan.{Plan}
use Rattle.tcel_driver.specs.Steps.{HaveTime}
use Rattle.tcel_fewest.specs.Sets.{Precedes, plans_of, size_of}
use Rattle.tcel_fewest.specs.declared.fault.SetFault.{SetFault}
use Rattle.tcel_fewest.specs.declared.fault.Why.{Why}
use Rattle.tcel_fewest.specs.declared.fault.Why.TheVariants as why

-- what is wrong with plans: they ask for more than there is, or, where there is room, a point is late
abbrev pub IsFault : List Plan → ℕ → Why → Type 0
IsFault plans hyper (why.Overload cycles ticks) = (cycles ≡ demand plans hyper) × (ticks ≡ hyper) × (hyper < cycles)
IsFault plans hyper (why.Late late) = (demand plans hyper ≤ hyper) × IsFirstLate plans late

-- the fault of this set is in the list
pub record IsTold (faults : List SetFault) (set : ℕ) : Type 0 where
  pub place : ℕ
  pub fault : SetFault
  pub there : slice_get faults place ≡ Some fault
  pub of_set : fault.tasks ≡ set

-- one fault for each of these sets of tasks, in the order of the sets
pub record AreFaults (whole sliced : List Plan) (hyper : ℕ) (Among : ℕ → Type 0) (faults : List SetFault) : Type 0 where
  pub each : (place : ℕ) (fault : SetFault) → slice_get faults place ≡ Some fault → Among fault.tasks × IsFault (plans_of fault.tasks whole sliced) hyper fault.why
  pub all : (set : ℕ) → Among set → IsTold faults set
  pub order : (i j : ℕ) (a b : SetFault) → i < j → slice_get faults i ≡ Some a → slice_get faults j ≡ Some b → Precedes (length whole) a.tasks b.tasks

-- a set of so many tasks
abbrev pub IsSet : ℕ → ℕ → Type 0
IsSet tasks set = set < 2 ^ tasks

-- a set of so many tasks that comes before another
abbrev pub IsBefore : ℕ → ℕ → ℕ → Type 0
IsBefore tasks later set = IsSet tasks set × Precedes tasks set later

-- this set fits, none before it does, and these are the faults of those
pub record IsFewest (whole sliced : List Plan) (hyper found : ℕ) (faults : List SetFault) : Type 0 where
  pub is : IsSet (length whole) found
  pub time : HaveTime (plans_of found whole sliced) hyper
  pub first : (set : ℕ) → IsBefore (length whole) found set → HaveTime (plans_of set whole sliced) hyper → ⊥
  pub told : AreFaults whole sliced hyper (IsBefore (length whole) found) faults

-- no set fits, and these are the faults of all
pub record NoneFits (whole sliced : List Plan) (hyper : ℕ) (faults : List SetFault) : Type 0 where
  pub none : (set : ℕ) → IsSet (length whole) set → HaveTime (plans_of set whole sliced) hyper → ⊥
  pub told : AreFaults whole sliced hyper (IsSet (length whole)) faults

-- ---- steps of the search

-- a set of so many tasks that is smaller, or of this size with a lower number
abbrev pub IsReached : ℕ → ℕ → ℕ → ℕ → Type 0
IsReached tasks size upto set = IsSet tasks set × ((size_of tasks set < size) ⊎ ((size_of tasks set ≡ size) × (set < upto)))

-- the set fits, or its fault is new
abbrev pub IsAsked : List Plan → List Plan → ℕ → ℕ → Bool → List SetFault → List SetFault → Type 0
IsAsked whole sliced hyper set true old new = HaveTime (plans_of set whole sliced) hyper × (new ≡ old)
IsAsked whole sliced hyper set false old new =
    (reason : Why) × IsFault (plans_of set whole sliced) hyper reason × (new ≡ old ++ record { tasks = set; why = reason } ∷ [])
