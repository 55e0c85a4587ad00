-- The command `timeline`: what it writes.
use Rattle.std.specs.Prelude.{ℕ, List, [], ◌∷◌, codes}
use Rattle.tcel_tool.specs.CommandLine.{number_at}
use Rattle.tcel_tool.specs.RunCommand.{most_ticks}
use Rattle.tcel_tool.specs.SetChoice.{Choice, IsChoiceFor, choice_stages}
use Rattle.tcel_tool.specs.Spans.{AreLines}
use Rattle.tcel_tool.specs.Stage.{Call, Stage, bound}
use Rattle.tcel_tool.specs.declared.command.Slot.{Slot}
use Rattle.tcel_tool.specs.declared.command.Slot.TheVariants.{File, Number}
use Rattle.tcel_tool.specs.declared.status.CountKind.TheVariants.{Ticks}

-- `timeline PROGRAM TARGET TICKS`
abbrev pub name : List ℕ
name = codes "timeline"

abbrev pub slots : List Slot
slots = File ∷ File ∷ Number ∷ []

abbrev pub stages : List Stage
stages = bound Ticks 3 most_ticks ∷ choice_stages

-- a piece for each span of the schedule of the chosen plans, in so many ticks
pub record IsText (call : Call) (pieces : List (List ℕ)) : Type 0 where
  pub choice : Choice
  pub for : IsChoiceFor (call.read 1) (call.read 2) choice
  pub lines : AreLines choice.set choice.plans 0 (number_at call.words 3) pieces
