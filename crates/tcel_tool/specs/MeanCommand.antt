-- The command `mean`: what it refuses, and what it writes.
use Rattle.std.specs.Prelude.{◌≡◌, ℕ, List, [], ◌∷◌, Ok, codes}
use Rattle.tcel_check.specs.Checked.{set_of}
use Rattle.tcel_core.specs.Ports.{port_rows}
use Rattle.tcel_script.specs.Script.{Streams, script_of}
use Rattle.tcel_tree.specs.Language.{Task}
use Rattle.tcel_tool.specs.CheckCommand.{IsFaultless}
use Rattle.tcel_tool.specs.CommandLine.{number_at}
use Rattle.tcel_tool.specs.MeanText.{mean_pieces}
use Rattle.tcel_tool.specs.ProgramText.{program_limit}
use Rattle.tcel_tool.specs.ScriptText.{RefusesLines, script_limit}
use Rattle.tcel_tool.specs.Stage.{Call, Stage, load, bound, test}
use Rattle.tcel_tool.specs.Test as tests
use Rattle.tcel_tool.specs.declared.command.Slot.{Slot}
use Rattle.tcel_tool.specs.declared.command.Slot.TheVariants.{File, Number}
use Rattle.tcel_tool.specs.declared.status.CountKind.TheVariants.{MeanFrames}
use Rattle.tcel_tool.specs.declared.status.Status.{Status}

-- `mean PROGRAM SCRIPT FRAMES`
abbrev pub name : List ℕ
name = codes "mean"

abbrev pub slots : List Slot
slots = File ∷ File ∷ Number ∷ []

abbrev pub stages : List Stage
stages =
    bound MeanFrames 3 10000 ∷ load 1 program_limit ∷ test tests.program ∷ test tests.faultless ∷ load 2 script_limit ∷ test (tests.inputs 2) ∷ []

-- ---- the script

-- the program has no fault, and the script has these streams for the inputs of its set
pub record Means (text lines : List ℕ) (tasks : List Task) (streams : Streams) : Type 0 where
  pub faultless : IsFaultless text tasks
  pub streams_in : script_of (port_rows (set_of tasks)) lines ≡ Ok streams

-- the first faulty line of a script for these inputs
abbrev pub RefusesInputs : List ℕ → List ℕ → Status → Type 0
RefusesInputs text lines status = (tasks : List Task) × IsFaultless text tasks × RefusesLines (port_rows (set_of tasks)) lines status

-- ---- the text

-- what the tasks of the set do in so many frames over the streams
pub record IsText (call : Call) (pieces : List (List ℕ)) : Type 0 where
  pub tasks : List Task
  pub streams : Streams
  pub means : Means (call.read 1) (call.read 2) tasks streams
  pub is : pieces ≡ mean_pieces (number_at call.words 3) (set_of tasks) streams
