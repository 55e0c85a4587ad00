-- The command `format`: what it refuses, and what it writes.
use Rattle.std.specs.Prelude.{◌≡◌, ℕ, List, [], ◌∷◌, codes}
use Rattle.tcel_show.specs.Text.{canonical_text}
use Rattle.tcel_tree.specs.Language.{Task}
use Rattle.tcel_tool.specs.ProgramText.{IsProgramText, program_limit}
use Rattle.tcel_tool.specs.Stage.{Call, Stage, load, test}
use Rattle.tcel_tool.specs.Test as tests
use Rattle.tcel_tool.specs.declared.command.Slot.{Slot}
use Rattle.tcel_tool.specs.declared.command.Slot.TheVariants.{File}

-- `format PROGRAM`
abbrev pub name : List ℕ
name = codes "format"

abbrev pub slots : List Slot
slots = File ∷ []

abbrev pub stages : List Stage
stages = load 1 program_limit ∷ test tests.program ∷ []

-- one piece, the canonical text
pub record IsText (call : Call) (pieces : List (List ℕ)) : Type 0 where
  pub tasks : List Task
  pub program : IsProgramText (call.read 1) tasks
  pub is : pieces ≡ canonical_text tasks ∷ []
