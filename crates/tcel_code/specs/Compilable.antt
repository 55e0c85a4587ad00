-- Which sets have a valid image: expressions fit the stack, ports are there, and names differ.
use Rattle.std.specs.Prelude.{◌≡◌, ℕ, ◌+◌, ◌<◌, ◌≤◌, max, false, List, length, map}
use Rattle.std.specs.Int.{IsInRange}
use Rattle.std.specs.List.{AllByRecursion}
use Rattle.tcel_core.specs.Language.{Expr, number, variable, element, unary, binary, Block, done, next, Stmt, item, choice, timed, Act, assign, assign_at, receive, send, for_loop, while_loop, copy, Task}
use Rattle.tcel_core.specs.Scope.{Fits}
use Rattle.tcel_target.specs.declared.costs.Costs.{Costs}
use Rattle.tcel_image.specs.Validity.{IsValid, has_twice, own_names}
use Rattle.tcel_cost.specs.Forms.{Form, whole_form}
use Rattle.tcel_code.specs.Counters.{HaveTheirCounters}
use Rattle.tcel_code.specs.Layout.{form_task, image_task, layout}

-- how many values an expression's code has on the stack at most
abbrev pub height : Expr → ℕ
height (number n) = 1
height (variable v) = 1
height (element v i) = height i
height (unary op e) = height e
height (binary op a b) = max (height a) (1 + height b)

abbrev mutual
  -- expressions fit the stack, and ports are among so many inputs and outputs
  pub IsWithin : Block → ℕ → ℕ → Type 0
  IsWithin done inputs outputs = Unit {0}
  IsWithin (next s rest) inputs outputs = StmtIsWithin s inputs outputs × IsWithin rest inputs outputs

  pub StmtIsWithin : Stmt → ℕ → ℕ → Type 0
  StmtIsWithin (item id act) inputs outputs = ActIsWithin act inputs outputs
  StmtIsWithin (choice id test held other) inputs outputs = (height test ≤ 128) × IsWithin held inputs outputs × IsWithin other inputs outputs
  StmtIsWithin (timed id window body) inputs outputs = IsWithin body inputs outputs

  pub ActIsWithin : Act → ℕ → ℕ → Type 0
  ActIsWithin (assign v e) inputs outputs = height e ≤ 128
  ActIsWithin (assign_at v i e) inputs outputs = (height i ≤ 128) × (1 + height e ≤ 128)
  ActIsWithin (receive v port) inputs outputs = port < inputs
  ActIsWithin (send e port) inputs outputs = (height e ≤ 128) × (port < outputs)
  ActIsWithin (for_loop v turns body) inputs outputs = IsWithin body inputs outputs
  ActIsWithin (while_loop test turns body) inputs outputs = (height test ≤ 128) × IsWithin body inputs outputs
  ActIsWithin (copy a b) inputs outputs = Unit {0}

-- what a form of a checked task has, so that its image is valid
pub record IsCompilable (form : Form) : Type 0 where
  pub first : Fits form.parts.first form.parts.vars
  pub rest : Fits form.parts.rest form.parts.vars
  pub first_within : IsWithin form.parts.first (length form.task.inputs) (length form.task.outputs)
  pub rest_within : IsWithin form.parts.rest (length form.task.inputs) (length form.task.outputs)
  pub first_counters : HaveTheirCounters form.task.body form.parts.first
  pub rest_counters : HaveTheirCounters form.task.body form.parts.rest
  pub period : IsInRange 1 1000000000 form.task.period
  pub names : has_twice (own_names (form_task form)) ≡ false

-- the image of such forms, whose names differ, is valid
abbrev pub ImagesAreValid : Type 0
ImagesAreValid =
    (forms : List Form) (costs : Costs) → has_twice (map (λ (form : Form). form.task.name) forms) ≡ false → AllByRecursion IsCompilable forms →
    IsValid (layout forms costs)

-- a task is such a form as a whole, where its body fits
abbrev pub WholeTasksAreCompilable : Type 0
WholeTasksAreCompilable =
    (task : Task) → Fits task.body task.vars → IsWithin task.body (length task.inputs) (length task.outputs) → IsInRange 1 1000000000 task.period →
    has_twice (own_names (image_task task)) ≡ false → IsCompilable (whole_form task)
