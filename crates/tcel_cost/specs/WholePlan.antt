-- The plans of tasks that are not sliced.
use Rattle.std.specs.Prelude.{List, map}
use Rattle.tcel_num.specs.Plan.{Plan}
use Rattle.tcel_core.specs.Language.{Task}
use Rattle.tcel_target.specs.declared.costs.Costs.{Costs}
use Rattle.tcel_cost.specs.Forms.{whole_form}
use Rattle.tcel_cost.specs.Plans.{IsPlan, ArePlans}

-- the plan of a task as a whole
abbrev pub IsWholePlan : Task → Costs → Plan → Type 0
IsWholePlan task costs plan = IsPlan (whole_form task) costs plan

-- the plans of a set of which no task is sliced
abbrev pub AreWholePlans : List Task → Costs → List Plan → Type 0
AreWholePlans set costs plans = ArePlans (map whole_form set) costs plans
