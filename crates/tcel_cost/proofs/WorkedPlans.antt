-- The plans of the worked tasks of slicing, found by their costs.
use Rattle.std.proofs.Common.{rules, refl, arith}
use Rattle.tcel_core.specs.declared.var.Keep.{Keep}
use Rattle.tcel_core.specs.SlicingExamples.{branch_body, branch_vars, step_body, step_vars}
use Rattle.tcel_target.specs.Costs.{unit_costs}
use Rattle.tcel_target.proofs.Keys.{unit_in_range}
use Rattle.tcel_cost.specs.Examples.{sliced_branch, sliced_state_step, sliced_step, worked_forms, worked_plans, worked_task}
use Rattle.tcel_cost.specs.Forms.{Form, whole_form}
use Rattle.tcel_cost.specs.Plans.{ArePlans, IsPlan}
use Rattle.tcel_cost.proofs.PartCosts.{BodyFits}
use Rattle.tcel_cost.proofs.PlanCosts.{Found, plan_meets}

meets : (form : Form) → BodyFits form.parts.first form.parts.vars unit_costs → BodyFits form.parts.rest form.parts.vars unit_costs → IsPlan form unit_costs (Found form unit_costs unit_in_range)
meets form first rest = plan_meets form unit_costs unit_in_range first rest

pub worked-plans : ArePlans worked_forms unit_costs worked_plans
worked-plans = (
  meets sliced_step (record { loops = search rules; turns = search rules; windows = search rules; most = omega arith })
      (record { loops = search rules; turns = search rules; windows = search rules; most = omega arith }),
  (
    meets sliced_state_step (record { loops = search rules; turns = search rules; windows = search rules; most = omega arith })
        (record { loops = search rules; turns = search rules; windows = search rules; most = omega arith }),
    (
      meets sliced_branch (record { loops = search rules; turns = search rules; windows = search rules; most = omega arith })
          (record { loops = search rules; turns = search rules; windows = search rules; most = omega arith }),
      (
        meets (whole_form (worked_task (step_vars Keep.Local) step_body)) (record { loops = search rules; turns = search rules; windows = search rules; most = omega arith })
            (record { loops = search rules; turns = search rules; windows = search rules; most = omega arith }),
        (
          meets (whole_form (worked_task branch_vars branch_body)) (record { loops = search rules; turns = search rules; windows = search rules; most = omega arith })
              (record { loops = search rules; turns = search rules; windows = search rules; most = omega arith }),
          refl,
        ),
      ),
    ),
  ),
)
