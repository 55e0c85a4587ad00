-- The command `analyse`: what it writes.
use Rattle.std.specs.Prelude.{◌≡◌, ℕ, List, [], ◌∷◌, codes}
use Rattle.tcel_tool.specs.Report.{IsReport}
use Rattle.tcel_tool.specs.SetChoice.{Choice, IsChoiceFor, choice_stages}
use Rattle.tcel_tool.specs.Stage.{Call, Stage}
use Rattle.tcel_tool.specs.declared.command.Slot.{Slot}
use Rattle.tcel_tool.specs.declared.command.Slot.TheVariants.{File}

-- `analyse PROGRAM TARGET`
abbrev pub name : List ℕ
name = codes "analyse"

abbrev pub slots : List Slot
slots = File ∷ File ∷ []

abbrev pub stages : List Stage
stages = choice_stages

-- one piece, the report on the choice
pub record IsText (call : Call) (pieces : List (List ℕ)) : Type 0 where
  pub choice : Choice
  pub for : IsChoiceFor (call.read 1) (call.read 2) choice
  pub report : List ℕ
  pub reports : IsReport choice report
  pub is : pieces ≡ report ∷ []
