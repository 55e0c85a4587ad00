-- The bodies of checked tasks, whole and in parts.
use Rattle.std.specs.Prelude.{◌≡◌, ◌⊎◌, List}
use Rattle.tcel_core.specs.declared.var.Var.{Var}
use Rattle.tcel_core.specs.Language.{Block, Task}
use Rattle.tcel_core.specs.Parts.{AreOwnParts, TaskParts}
use Rattle.tcel_core.specs.Sound.{IsSoundTask}

-- the task's body, with its variables
abbrev pub IsWhole : Task → Block → List Var → Type 0
IsWhole task body vars = (body ≡ task.body) × (vars ≡ task.vars)

-- one of the task's own parts, with their variables
pub record IsPart (task : Task) (body : Block) (vars : List Var) : Type 0 where
  pub parts : TaskParts
  pub own : AreOwnParts task parts
  pub one : (body ≡ parts.first) ⊎ (body ≡ parts.rest)
  pub over : vars ≡ parts.vars

-- the body of a checked task, or one of its own parts
pub record IsTaskBody (body : Block) (vars : List Var) : Type 0 where
  pub task : Task
  pub sound : IsSoundTask task
  pub form : IsWhole task body vars ⊎ IsPart task body vars
