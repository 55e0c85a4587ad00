-- How many tasks of a program are sliced for a target, for every command that compiles; and which programs are refused.
use Rattle.std.specs.Prelude.{◌≡◌, ◌≢◌, ℕ, ◌<◌, List, [], ◌∷◌, Option, Some, None, IfSome, length, option_map, slice_get}
use Rattle.tcel_core.specs.Language as core
use Rattle.tcel_core.specs.Parts.{TaskParts}
use Rattle.tcel_core.specs.Sound.{IsSoundSet}
use Rattle.tcel_check.specs.Checked.{set_of}
use Rattle.tcel_demand.specs.Sound.{Fit}
use Rattle.tcel_driver.specs.Choice.{IsChosen}
use Rattle.tcel_driver.specs.Refusals.{Refuses}
use Rattle.tcel_driver.specs.declared.refused.Refused.{Refused}
use Rattle.tcel_driver.specs.declared.refused.Refused.TheVariants as causes
use Rattle.tcel_judge.specs.declared.verdict.Breach.TheVariants as breaches
use Rattle.tcel_num.specs.Plan.{Plan}
use Rattle.tcel_target.specs.Costs.{CostsInRange, unit_costs}
use Rattle.tcel_target.specs.declared.costs.Costs.{Costs}
use Rattle.tcel_tree.specs.Language.{Task}
use Rattle.tcel_tool.specs.CheckCommand.{IsFaultless}
use Rattle.tcel_tool.specs.ProgramText.{program_limit}
use Rattle.tcel_tool.specs.Stage.{Stage, load, test}
use Rattle.tcel_tool.specs.TargetText.{GivesCosts, target_limit}
use Rattle.tcel_tool.specs.Test as tests
use Rattle.tcel_tool.specs.declared.status.LimitFault.TheVariants as limits
use Rattle.tcel_tool.specs.declared.status.Status.{Status}
use Rattle.tcel_tool.specs.declared.status.Status.TheVariants as statuses

-- the stages of a command whose first word is a program and whose second is a target
abbrev pub choice_stages : List Stage
choice_stages =
    load 1 program_limit ∷ test tests.program ∷ test tests.faultless ∷ load 2 target_limit ∷ test tests.target ∷ test tests.choice ∷ []

-- a set of tasks, the costs of a processor, how many of the last tasks are sliced, and all plans and parts
pub record Choice : Type 0 where
  pub set : List core.Task
  pub costs : Costs
  pub sliced : ℕ
  pub plans : List Plan
  pub parts : List TaskParts

-- the least number of sliced tasks with which the set fits, in its hyperperiod
pub record IsBest (c : Choice) : Type 0 where
  pub sound : IsSoundSet c.set
  pub costs : CostsInRange c.costs
  pub chosen : IsChosen c.set c.costs c.sliced c.plans c.parts
  pub hyper : ℕ
  pub fit : Fit c.plans hyper

-- that of the set of a program, for the costs of a target
pub record IsChoiceFor (program target : List ℕ) (c : Choice) : Type 0 where
  pub tasks : List Task
  pub faultless : IsFaultless program tasks
  pub is : c.set ≡ set_of tasks
  pub gives : GivesCosts target c.costs
  pub best : IsBest c

-- that of the set of a program, where each instruction costs one cycle
pub record IsUnitChoice (program : List ℕ) (c : Choice) : Type 0 where
  pub tasks : List Task
  pub faultless : IsFaultless program tasks
  pub is : c.set ≡ set_of tasks
  pub unit : c.costs ≡ unit_costs
  pub best : IsBest c

-- ---- refusals

-- the status for a cause
abbrev pub status_for : Refused → Status
status_for (causes.TooManyCells task words) = statuses.Limit (limits.Cells task words)
status_for (causes.TooDear task cycles) = statuses.Limit (limits.Cycles task cycles)
status_for (causes.HyperTooLong task) = statuses.Limit (limits.Hyper task)
status_for (causes.TooManyFrames frames) = statuses.Limit (limits.Frames frames)
status_for (causes.Overload demand hyper) = statuses.Overload demand hyper
status_for (causes.Late late) = statuses.Late late
status_for causes.NoMemory = statuses.NoMemory

-- no choice is made for the set, with this status
abbrev pub RefusesSet : List core.Task → Costs → Status → Type 0
RefusesSet set costs status = (cause : Refused) × (cause ≢ causes.NoMemory) × (status ≡ status_for cause) × Refuses set costs cause

-- none for the set of a program and the costs of a target
pub record RefusesChoice (program target : List ℕ) (status : Status) : Type 0 where
  pub tasks : List Task
  pub faultless : IsFaultless program tasks
  pub costs : Costs
  pub gives : GivesCosts target costs
  pub refused : RefusesSet (set_of tasks) costs status

-- none for the set of a program, where each instruction costs one cycle
pub record RefusesUnitChoice (program : List ℕ) (status : Status) : Type 0 where
  pub tasks : List Task
  pub faultless : IsFaultless program tasks
  pub refused : RefusesSet (set_of tasks) unit_costs status

-- ---- the task that a status tells

-- its number
abbrev pub told_task : Status → Option ℕ
told_task (statuses.Late late) = Some late.task
told_task (statuses.Limit (limits.Cells task words)) = Some task
told_task (statuses.Limit (limits.Cycles task cycles)) = Some task
told_task (statuses.Limit (limits.Hyper task)) = Some task
told_task (statuses.Breach (breaches.Missing task frame what)) = Some task
told_task _ = None

-- the name of the task of this number in a set
abbrev pub name_at : List core.Task → ℕ → Option (List ℕ)
name_at set number = option_map (λ (task : core.Task). task.name) (slice_get set number)

-- where a status tells a task of a set, the task is there, and this is its name
abbrev pub Names : List core.Task → Status → Option (List ℕ) → Type 0
Names set status name = IfSome (told_task status) (λ number. (number < length set) × (name ≡ name_at set number))

-- where it tells a task of a program, this is its name
abbrev pub NamesTask : List ℕ → Status → Option (List ℕ) → Type 0
NamesTask program status name = (tasks : List Task) × IsFaultless program tasks × Names (set_of tasks) status name
