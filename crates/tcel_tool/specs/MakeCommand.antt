-- The command `make`: what it writes.
use Rattle.std.specs.Prelude.{◌≡◌, ℕ, List, [], ◌∷◌, codes}
use Rattle.tcel_make.specs.Program.{program_text}
use Rattle.tcel_tool.specs.CommandLine.{number_at}
use Rattle.tcel_tool.specs.Stage.{Call, Stage, bound}
use Rattle.tcel_tool.specs.declared.command.Slot.{Slot}
use Rattle.tcel_tool.specs.declared.command.Slot.TheVariants.{Number, Positive}
use Rattle.tcel_tool.specs.declared.status.CountKind.TheVariants.{MadeTasks}

-- `make SEED TASKS`
abbrev pub name : List ℕ
name = codes "make"

abbrev pub slots : List Slot
slots = Number ∷ Positive ∷ []

-- the most tasks of a made program
abbrev pub made_tasks : ℕ
made_tasks = 16

abbrev pub stages : List Stage
stages = bound MadeTasks 2 made_tasks ∷ []

-- one piece, the program of so many tasks that the seed stands for
pub record IsText (call : Call) (pieces : List (List ℕ)) : Type 0 where
  pub is : pieces ≡ program_text (number_at call.words 1) (number_at call.words 2) ∷ []
