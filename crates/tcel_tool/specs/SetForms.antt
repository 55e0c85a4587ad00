-- Both forms of each task of a program for a target, for commands that ask which tasks are sliced; and which programs have none.
use Rattle.std.specs.Prelude.{◌≡◌, ◌≢◌, ℕ, List}
use Rattle.tcel_check.specs.Checked.{set_of}
use Rattle.tcel_core.specs.Language as core
use Rattle.tcel_core.specs.Parts.{TaskParts}
use Rattle.tcel_driver.specs.Forms.{AreForms}
use Rattle.tcel_driver.specs.Refusals.{ForbidsForms}
use Rattle.tcel_driver.specs.declared.refused.Refused.{Refused}
use Rattle.tcel_driver.specs.declared.refused.Refused.TheVariants as causes
use Rattle.tcel_num.specs.Plan.{Plan}
use Rattle.tcel_target.specs.declared.costs.Costs.{Costs}
use Rattle.tcel_tree.specs.Language.{Task}
use Rattle.tcel_tool.specs.CheckCommand.{IsFaultless}
use Rattle.tcel_tool.specs.SetChoice.{status_for}
use Rattle.tcel_tool.specs.TargetText.{GivesCosts}
use Rattle.tcel_tool.specs.declared.status.Status.{Status}

-- a set of tasks, the costs of a processor, of each task its parts, its plan as a whole and its plan sliced, and the hyperperiod
pub record SetForms : Type 0 where
  pub set : List core.Task
  pub costs : Costs
  pub parts : List TaskParts
  pub whole : List Plan
  pub sliced : List Plan
  pub hyper : ℕ

-- those of the set of a program, for the costs of a target
pub record AreFormsFor (program target : List ℕ) (f : SetForms) : Type 0 where
  pub tasks : List Task
  pub faultless : IsFaultless program tasks
  pub is : f.set ≡ set_of tasks
  pub gives : GivesCosts target f.costs
  pub are : AreForms f.set f.costs f.parts f.whole f.sliced f.hyper

-- ---- refusals

-- a form of the set is beyond a limit, with this status
abbrev pub ForbidsSet : List core.Task → Costs → Status → Type 0
ForbidsSet set costs status = (cause : Refused) × (cause ≢ causes.NoMemory) × (status ≡ status_for cause) × ForbidsForms set costs cause

-- one of the set of a program, for the costs of a target
pub record RefusesForms (program target : List ℕ) (status : Status) : Type 0 where
  pub tasks : List Task
  pub faultless : IsFaultless program tasks
  pub costs : Costs
  pub gives : GivesCosts target costs
  pub refused : ForbidsSet (set_of tasks) costs status
