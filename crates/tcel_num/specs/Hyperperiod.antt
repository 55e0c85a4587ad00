-- After how many ticks releases repeat, and what a set asks for in that time.
use Rattle.std.specs.Prelude.{◌≡◌, ℕ, ◌*◌, ◌/◌, ◌<◌, ◌≤◌, List, All, map, sum_by}
use Rattle.tcel_num.specs.Plan.{Plan}

-- a number of whole periods of each of these lengths
abbrev pub IsCommonMultiple : List ℕ → ℕ → Type 0
IsCommonMultiple periods n = All (λ (period : ℕ). (k : ℕ) × (n ≡ k * period)) periods

-- the least such number that isn't 0; that of no periods is 1
pub record IsLeastCommonMultiple (periods : List ℕ) (n : ℕ) : Type 0 where
  pub positive : 0 < n
  pub common : IsCommonMultiple periods n
  pub least : (m : ℕ) → 0 < m → IsCommonMultiple periods m → n ≤ m

-- the periods of plans
abbrev pub periods_of : List Plan → List ℕ
periods_of plans = map (λ (plan : Plan). plan.period) plans

-- the least common multiple of the periods
abbrev pub IsHyperperiod : List Plan → ℕ → Type 0
IsHyperperiod plans n = IsLeastCommonMultiple (periods_of plans) n

-- the cycles of all frames that are released in so many ticks
abbrev pub demand : List Plan → ℕ → ℕ
demand plans hyper = sum_by (λ (plan : Plan). plan.total * (hyper / plan.period)) plans
