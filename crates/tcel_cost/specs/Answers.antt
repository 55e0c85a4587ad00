-- Why a task gets no plan, and that it has no two.
use Rattle.std.specs.Prelude.{◌≡◌, ℕ, ◌^◌, ◌<◌, List}
use Rattle.tcel_num.specs.Plan.{Plan}
use Rattle.tcel_target.specs.declared.costs.Costs.{Costs}
use Rattle.tcel_cost.specs.declared.plans.CostFail.{CostFail}
use Rattle.tcel_cost.specs.declared.plans.CostFail.TheVariants.{TooDear, NoMemory}
use Rattle.tcel_cost.specs.Forms.{Form}
use Rattle.tcel_cost.specs.Plans.{IsPlan, ArePlans}

-- too dear: a frame of the form takes these cycles at most, which are above 10^9; memory may run out at any time
abbrev pub Refuses : Form → Costs → CostFail → Type 0
Refuses form costs (TooDear cycles) = (plan : Plan) × IsPlan form costs plan × (plan.total ≡ cycles) × (10 ^ 9 < cycles)
Refuses form costs NoMemory = Unit {0}

-- a form has one plan at most
abbrev pub PlansAreUnique : Type 0
PlansAreUnique = (form : Form) (costs : Costs) (a b : Plan) → IsPlan form costs a → IsPlan form costs b → a ≡ b

-- so has a set
abbrev pub ListsOfPlansAreUnique : Type 0
ListsOfPlansAreUnique = (forms : List Form) (costs : Costs) (a b : List Plan) → ArePlans forms costs a → ArePlans forms costs b → a ≡ b

-- a frame takes more than 10^9 cycles, and these
abbrev pub IsAbove : ℕ → CostFail → Type 0
IsAbove total (TooDear cycles) = (cycles ≡ total) × (10 ^ 9 < cycles)
IsAbove total NoMemory = Unit {0}
