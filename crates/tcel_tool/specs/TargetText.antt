-- The costs that bytes give, for every command that reads a target; and what is refused of bytes that give none.
use Rattle.std.specs.Prelude.{◌≡◌, ℕ, List, Err}
use Rattle.tcel_target.specs.Costs.{CostsInRange}
use Rattle.tcel_target.specs.Target.{IsTarget, Says}
use Rattle.tcel_target.specs.declared.costs.Costs.{Costs}
use Rattle.tcel_target.specs.declared.fail.TargetFail.{TargetFail}
use Rattle.tcel_target.specs.declared.fail.TargetFail.TheVariants as fails
use Rattle.tcel_tool.specs.declared.status.Status.{Status}
use Rattle.tcel_tool.specs.declared.status.Status.TheVariants.{Target}

-- the most bytes of a target
abbrev pub target_limit : ℕ
target_limit = 65536

-- the bytes are a target with these costs
pub record GivesCosts (target : List ℕ) (costs : Costs) : Type 0 where
  pub ranges : CostsInRange costs
  pub text : IsTarget target costs

-- they have this fault
abbrev pub HasFault : List ℕ → TargetFail → Type 0
HasFault target fails.NoMemory = ⊥
HasFault target fail = Says target (Err fail)

abbrev pub RefusesTarget : List ℕ → Status → Type 0
RefusesTarget target status = (fail : TargetFail) × (status ≡ Target fail) × HasFault target fail
