-- Both forms of each task of a set with their plans, and the set's hyperperiod, within the limits.
use Rattle.std.specs.Prelude.{ℕ, ◌/◌, ◌^◌, ◌≤◌, true, false, List, [], ◌∷◌, map, sum_by}
use Rattle.std.specs.List.{AllZip}
use Rattle.tcel_num.specs.Hyperperiod.{IsLeastCommonMultiple}
use Rattle.tcel_num.specs.Plan.{Plan}
use Rattle.tcel_core.specs.Language.{Task}
use Rattle.tcel_core.specs.Parts.{AreOwnParts, TaskParts}
use Rattle.tcel_target.specs.declared.costs.Costs.{Costs}
use Rattle.tcel_cost.specs.Forms.{Form, form_of}
use Rattle.tcel_cost.specs.Plans.{IsPlan}

-- each task's own parts
abbrev pub AreSplit : List Task → List TaskParts → Type 0
AreSplit tasks parts = AllZip AreOwnParts tasks parts

-- the plan of a form, with frames of at most 10^9 cycles
pub record IsAffordable (form : Form) (costs : Costs) (plan : Plan) : Type 0 where
  pub is : IsPlan form costs plan
  pub few : plan.total ≤ 10 ^ 9

-- the plans of a task, as a whole and sliced into its parts
pub record IsCosted (costs : Costs) (task : Task) (own : TaskParts) (whole sliced : Plan) : Type 0 where
  pub at_once : IsAffordable (form_of task false own) costs whole
  pub in_parts : IsAffordable (form_of task true own) costs sliced

-- those of each task
abbrev pub AreCosted : Costs → List Task → List TaskParts → List Plan → List Plan → Type 0
AreCosted costs [] [] [] [] = Unit {0}
AreCosted costs (task ∷ tasks) (own ∷ parts) (plan ∷ whole) (other ∷ sliced) =
    IsCosted costs task own plan other × AreCosted costs tasks parts whole sliced
AreCosted costs _ _ _ _ = ⊥

-- the periods of tasks
abbrev pub task_periods : List Task → List ℕ
task_periods tasks = map (λ (task : Task). task.period) tasks

-- the frames that tasks release in so many ticks
abbrev pub frames_within : List Task → ℕ → ℕ
frames_within tasks hyper = sum_by (λ (task : Task). hyper / task.period) tasks

-- of each task its own parts and both plans, and a hyperperiod of at most 10^12 ticks with at most 10^6 frames
pub record AreForms (tasks : List Task) (costs : Costs) (parts : List TaskParts) (whole sliced : List Plan) (hyper : ℕ) : Type 0 where
  pub split : AreSplit tasks parts
  pub costed : AreCosted costs tasks parts whole sliced
  pub period : IsLeastCommonMultiple (task_periods tasks) hyper
  pub most : hyper ≤ 10 ^ 12
  pub frames : frames_within tasks hyper ≤ 10 ^ 6
