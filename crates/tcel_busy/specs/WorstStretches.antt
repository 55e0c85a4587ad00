-- The worst response so far, and one stretch more.
use Rattle.std.specs.Prelude.{◌≡◌, ℕ, ◌+◌, ◌<◌, ◌≤◌, ◌⊎◌, List, Some, slice_get, slice_index_or}
use Rattle.tcel_busy.specs.declared.stretch.Stretch.{Stretch}
use Rattle.tcel_demand.specs.Sound.{HasPoint}
use Rattle.tcel_demand.specs.declared.plan.Worst.{Worst}
use Rattle.tcel_num.specs.Lateness.{IsWorst}
use Rattle.tcel_num.specs.Plan.{Plan, Point}

-- the stretch reaches this prefix
pub record Reaches (prefix : ℕ) (stretch : Stretch) : Type 0 where
  pub after : stretch.from < prefix
  pub upto : prefix ≤ stretch.to

-- what is worst with the stretch: it stays where the stretch doesn't reach the prefix, or with no greater response
abbrev pub IsWorstWith : ℕ → Stretch → Worst → Worst → Type 0
IsWorstWith prefix stretch worst next =
    (¬ Reaches prefix stretch × (next ≡ worst)) ⊎ (Reaches prefix stretch × (stretch.delay + prefix ≤ worst.response) × (next ≡ worst))
    ⊎ (Reaches prefix stretch × (worst.response < stretch.delay + prefix) × (next.frame ≡ stretch.frame) × (next.response ≡ stretch.delay + prefix))

-- the same for each point at its place
abbrev pub AreWorstWith : List Point → Stretch → List Worst → List Worst → Type 0
AreWorstWith points stretch worst next = (place : ℕ) (point : Point) (d : Worst) → slice_get points place ≡ Some point →
    IsWorstWith point.prefix stretch (slice_index_or worst place d) (slice_index_or next place d)

-- for each point of the task its greatest response and the first frame that has it
abbrev pub AreWorst : List Plan → ℕ → List Worst → Type 0
AreWorst plans task worst = (point : ℕ) (one : Worst) → HasPoint plans task point → slice_get worst point ≡ Some one → IsWorst plans task point one.frame one.response
