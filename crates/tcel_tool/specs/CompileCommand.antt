-- The command `compile`: what it writes.
use Rattle.std.specs.Prelude.{◌≡◌, ℕ, ◌≤◌, List, [], ◌∷◌, Option, IfSome, codes, length}
use Rattle.tcel_check.specs.Checked.{set_of}
use Rattle.tcel_image.specs.Spelling.{spelling}
use Rattle.tcel_io.specs.Taken.{Takes}
use Rattle.tcel_tree.specs.Language.{Task}
use Rattle.tcel_tool.specs.CheckCommand.{IsFaultless}
use Rattle.tcel_tool.specs.Headline.{KeepsItsPromise, image_for}
use Rattle.tcel_tool.specs.RunCommand.{run_limit}
use Rattle.tcel_tool.specs.SetChoice.{Choice, IsBest, IsChoiceFor, choice_stages}
use Rattle.tcel_tool.specs.Stage.{Call, Stage}
use Rattle.tcel_tool.specs.TargetText.{GivesCosts}
use Rattle.tcel_tool.specs.declared.command.Slot.{Slot}
use Rattle.tcel_tool.specs.declared.command.Slot.TheVariants.{File}

-- `compile PROGRAM TARGET`
abbrev pub name : List ℕ
name = codes "compile"

abbrev pub slots : List Slot
slots = File ∷ File ∷ []

abbrev pub stages : List Stage
stages = choice_stages

-- the bytes of the image of a choice
abbrev pub image_bytes : Choice → List ℕ
image_bytes c = spelling (image_for c)

-- one piece, the image
pub record IsText (call : Call) (pieces : List (List ℕ)) : Type 0 where
  pub choice : Choice
  pub for : IsChoiceFor (call.read 1) (call.read 2) choice
  pub is : pieces ≡ image_bytes choice ∷ []

-- ---- what Ok promises

-- the program has no fault, and the target gives these costs, where their bytes are told; the set is the program's, and as few of its last tasks are
-- sliced as fit; out took the image, which has a spelling, is valid and no longer than `run` loads, and every run of it meets the set
pub record IsCompiled (program target old new : Option (List ℕ)) : Type 0 where
  pub tasks : List Task
  pub choice : Choice
  pub text : IfSome program (λ bytes. IsFaultless bytes tasks)
  pub set : choice.set ≡ set_of tasks
  pub given : IfSome target (λ bytes. GivesCosts bytes choice.costs)
  pub best : IsBest choice
  pub taken : Takes (image_bytes choice) old new
  pub loadable : length (image_bytes choice) ≤ run_limit
  pub promise : KeepsItsPromise choice
