-- Sets of tasks by their numbers: that of a set of n tasks is the sum of 2^(n-1-i) over its task numbers i. So a task stands for 2 to the number of tasks below it.
use Rattle.std.specs.Prelude.{◌≡◌, ℕ, zero, suc, ◌+◌, ◌/◌, ◌%◌, ◌^◌, ◌<◌, ◌⊎◌, Bool, List, [], ◌∷◌, if◌then◌else◌, length, nat_eq}
use Rattle.tcel_num.specs.Plan.{Plan}

-- whether the set has the task below which there are so many
abbrev pub has : ℕ → ℕ → Bool
has set below = nat_eq (set / 2 ^ below % 2) 1

-- how many of so many lowest tasks it has
unfoldable pub size_of : ℕ → ℕ → ℕ
size_of zero set = 0
size_of (suc below) set = size_of below set + (if has set below then 1 else 0)

-- of two sets of so many tasks the smaller one comes first, and of one size that with the lower number
abbrev pub Precedes : ℕ → ℕ → ℕ → Type 0
Precedes tasks a b = (size_of tasks a < size_of tasks b) ⊎ ((size_of tasks a ≡ size_of tasks b) × (a < b))

-- the plans of all tasks, of those in the set the sliced one and of each other the whole one
unfoldable pub plans_of : ℕ → List Plan → List Plan → List Plan
plans_of set [] sliced = []
plans_of set (plan ∷ whole) [] = []
plans_of set (plan ∷ whole) (other ∷ sliced) = (if has set (length whole) then other else plan) ∷ plans_of set whole sliced
