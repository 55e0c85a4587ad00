-- How many of the lowest tasks of a set are sliced.
use Rattle.std.specs.Prelude.{ℕ, ◌<◌, ◌≤◌, List, length}
use Rattle.tcel_num.specs.Hyperperiod.{IsHyperperiod, demand}
use Rattle.tcel_num.specs.Lateness.{IsNeverLate}
use Rattle.tcel_num.specs.Plan.{Plan}
use Rattle.tcel_core.specs.Language.{Task}
use Rattle.tcel_core.specs.Parts.{TaskParts}
use Rattle.tcel_target.specs.declared.costs.Costs.{Costs}
use Rattle.tcel_cost.specs.Forms.{forms_of}
use Rattle.tcel_cost.specs.Plans.{ArePlans}
use Rattle.tcel_driver.specs.Forms.{AreForms}

-- the hyperperiod has room for all that the plans ask for, and no point of any frame is ever late
pub record AreInTime (plans : List Plan) : Type 0 where
  pub hyper : ℕ
  pub period : IsHyperperiod plans hyper
  pub room : demand plans hyper ≤ hyper
  pub never : IsNeverLate plans

-- they are so with so many of the last tasks sliced and the others whole
pub record Fits (tasks : List Task) (costs : Costs) (parts : List TaskParts) (sliced : ℕ) : Type 0 where
  pub plans : List Plan
  pub are : ArePlans (forms_of sliced tasks parts) costs plans
  pub in_time : AreInTime plans

-- the least such number, with its plans and the parts of all tasks, where all forms are within the limits
pub record IsChosen (tasks : List Task) (costs : Costs) (sliced : ℕ) (plans : List Plan) (parts : List TaskParts) : Type 0 where
  pub at_once : List Plan
  pub in_parts : List Plan
  pub hyper : ℕ
  pub forms : AreForms tasks costs parts at_once in_parts hyper
  pub most : sliced ≤ length tasks
  pub are : ArePlans (forms_of sliced tasks parts) costs plans
  pub in_time : AreInTime plans
  pub least : (fewer : ℕ) → fewer < sliced → Fits tasks costs parts fewer → ⊥
