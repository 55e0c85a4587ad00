-- The worst response so far, and one step more.
use Rattle.std.specs.Prelude.{◌≡◌, ℕ, ◌<◌, ◌≤◌, ◌⊎◌}
use Rattle.tcel_demand.specs.declared.plan.Worst.{Worst}
use Rattle.tcel_demand.specs.declared.step.Step.{Step}

-- the step reaches this prefix of the task
pub record Reaches (task prefix : ℕ) (step : Step) : Type 0 where
  pub of_task : step.task ≡ task
  pub at_prefix : step.cycles ≡ prefix

-- what is worst after the step: it stays where the step doesn't reach the prefix, or with no greater response
abbrev pub IsWorstWith : ℕ → ℕ → Step → Worst → Worst → Type 0
IsWorstWith task prefix step worst next =
    (¬ Reaches task prefix step × (next ≡ worst)) ⊎ (Reaches task prefix step × (step.response ≤ worst.response) × (next ≡ worst))
    ⊎ (Reaches task prefix step × (worst.response < step.response) × (next.frame ≡ step.frame) × (next.response ≡ step.response))
