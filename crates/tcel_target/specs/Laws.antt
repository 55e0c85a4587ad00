-- Laws of targets.
use Rattle.std.specs.Prelude.{◌≡◌, ◌⊎◌, List, ℕ, Result, Err}
use Rattle.tcel_target.specs.declared.costs.Costs.{Costs}
use Rattle.tcel_target.specs.declared.fail.TargetFail.{TargetFail}
use Rattle.tcel_target.specs.declared.fail.TargetFail.TheVariants as fails
use Rattle.tcel_target.specs.Costs.{CostsInRange}
use Rattle.tcel_target.specs.Target.{IsTarget, Says}

-- bytes say one thing only, but for want of memory
abbrev pub SayOneThing : Type 0
SayOneThing =
    (bytes : List ℕ) (a b : Result Costs TargetFail) → Says bytes a → Says bytes b → (a ≡ b) ⊎ (a ≡ Err fails.NoMemory) ⊎ (b ≡ Err fails.NoMemory)

-- the costs of a target are in their ranges
abbrev pub TargetsAreInRange : Type 0
TargetsAreInRange = (bytes : List ℕ) (costs : Costs) → IsTarget bytes costs → CostsInRange costs
