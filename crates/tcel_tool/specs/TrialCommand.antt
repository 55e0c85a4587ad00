-- The command `trial`: what it refuses, and what it writes.
use Rattle.std.specs.Prelude.{◌≡◌, ℕ, List, [], ◌∷◌, Ok, codes}
use Rattle.tcel_core.specs.Ports.{port_rows}
use Rattle.tcel_script.specs.Script.{Streams, script_of}
use Rattle.tcel_tool.specs.CommandLine.{number_at}
use Rattle.tcel_tool.specs.MakeCommand.{made_tasks}
use Rattle.tcel_tool.specs.RunCommand.{most_ticks}
use Rattle.tcel_tool.specs.SetChoice.{Choice, IsUnitChoice}
use Rattle.tcel_tool.specs.Stage.{Call, Stage, make, program, script, bound, test}
use Rattle.tcel_tool.specs.Summary.{summary_text}
use Rattle.tcel_tool.specs.Test as tests
use Rattle.tcel_tool.specs.declared.command.Slot.{Slot}
use Rattle.tcel_tool.specs.declared.command.Slot.TheVariants.{Number, Positive}
use Rattle.tcel_tool.specs.declared.status.CountKind.TheVariants.{MadeTasks, Ticks}

-- `trial SEED TASKS TICKS`
abbrev pub name : List ℕ
name = codes "trial"

abbrev pub slots : List Slot
slots = Number ∷ Positive ∷ Number ∷ []

-- the made program stands as word 1, the made script as word 2
abbrev pub stages : List Stage
stages =
    bound MadeTasks 2 made_tasks ∷ bound Ticks 3 most_ticks ∷ make program 1 ∷ test tests.program ∷ test tests.faultless ∷ test tests.unit_choice
    ∷ make script 2 ∷ test (tests.inputs 2) ∷ []

-- one piece, the summary of the run of the choice's image on the script
pub record IsText (call : Call) (pieces : List (List ℕ)) : Type 0 where
  pub choice : Choice
  pub for : IsUnitChoice (call.read 1) choice
  pub streams : Streams
  pub streams_in : script_of (port_rows choice.set) (call.read 2) ≡ Ok streams
  pub is : pieces ≡ summary_text choice streams (number_at call.words 3) ∷ []
