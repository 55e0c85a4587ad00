-- The command `fewest`: what it refuses, and what it writes.
use Rattle.std.specs.Prelude.{◌≡◌, ℕ, ◌<◌, ◌≤◌, List, [], ◌∷◌, codes, length}
use Rattle.tcel_check.specs.Checked.{set_of}
use Rattle.tcel_core.specs.Language as core
use Rattle.tcel_tree.specs.Language.{Task}
use Rattle.tcel_tool.specs.CheckCommand.{IsFaultless}
use Rattle.tcel_tool.specs.FewestText.{IsFewestText}
use Rattle.tcel_tool.specs.ProgramText.{program_limit}
use Rattle.tcel_tool.specs.SetForms.{AreFormsFor, SetForms}
use Rattle.tcel_tool.specs.Stage.{Call, Stage, load, test}
use Rattle.tcel_tool.specs.TargetText.{target_limit}
use Rattle.tcel_tool.specs.Test as tests
use Rattle.tcel_tool.specs.declared.command.Slot.{Slot}
use Rattle.tcel_tool.specs.declared.command.Slot.TheVariants.{File}
use Rattle.tcel_tool.specs.declared.status.CountKind.TheVariants.{FewestTasks}
use Rattle.tcel_tool.specs.declared.status.LimitFault.TheVariants.{Count}
use Rattle.tcel_tool.specs.declared.status.Status.{Status}
use Rattle.tcel_tool.specs.declared.status.Status.TheVariants.{Limit}

-- `fewest PROGRAM TARGET`
abbrev pub name : List ℕ
name = codes "fewest"

abbrev pub slots : List Slot
slots = File ∷ File ∷ []

abbrev pub stages : List Stage
stages =
    load 1 program_limit ∷ test tests.program ∷ test tests.faultless ∷ test tests.few ∷ load 2 target_limit ∷ test tests.target ∷ test tests.forms ∷ []

-- ---- the number of tasks

-- the most tasks of a program
abbrev pub most_tasks : ℕ
most_tasks = 12

-- the bytes are this program's, which has no fault and at most so many tasks
pub record HasFewTasks (text : List ℕ) (tasks : List Task) : Type 0 where
  pub faultless : IsFaultless text tasks
  pub few : length (set_of tasks) ≤ most_tasks

-- the status for a set that has more
abbrev pub many_tasks : List core.Task → Status
many_tasks set = Limit (Count FewestTasks (length set))

-- it has, with this status
abbrev pub IsMany : List core.Task → Status → Type 0
IsMany set status = (status ≡ many_tasks set) × (most_tasks < length set)

-- the set of the program that the bytes are
abbrev pub RefusesMany : List ℕ → Status → Type 0
RefusesMany text status = (tasks : List Task) × IsFaultless text tasks × IsMany (set_of tasks) status

-- ---- the text

-- one piece, the certificate
pub record IsText (call : Call) (pieces : List (List ℕ)) : Type 0 where
  pub forms : SetForms
  pub for : AreFormsFor (call.read 1) (call.read 2) forms
  pub text : List ℕ
  pub certifies : IsFewestText forms text
  pub is : pieces ≡ text ∷ []
