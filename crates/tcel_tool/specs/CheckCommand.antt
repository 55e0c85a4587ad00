-- The command `check`: what it refuses, and what it writes.
use Rattle.std.specs.Prelude.{◌≡◌, ℕ, List, [], ◌∷◌, Some, codes}
use Rattle.tcel_num.specs.declared.at.At.{At}
use Rattle.tcel_check.specs.Marks.{IsFirst}
use Rattle.tcel_check.specs.Rows.{marks}
use Rattle.tcel_check.specs.declared.mark.Mark.{Mark}
use Rattle.tcel_check.specs.declared.mark.Row.{Row}
use Rattle.tcel_check.specs.declared.mark.Row.TheVariants as rows
use Rattle.tcel_tree.specs.Language.{Task}
use Rattle.tcel_tool.specs.ProgramText.{IsProgramText, program_limit}
use Rattle.tcel_tool.specs.Stage.{Call, Stage, load, test}
use Rattle.tcel_tool.specs.Test as tests
use Rattle.tcel_tool.specs.declared.command.Slot.{Slot}
use Rattle.tcel_tool.specs.declared.command.Slot.TheVariants.{File}
use Rattle.tcel_tool.specs.declared.status.LimitFault.TheVariants.{Placed}
use Rattle.tcel_tool.specs.declared.status.ProgramKind.TheVariants.{Check}
use Rattle.tcel_tool.specs.declared.status.Status.{Status}
use Rattle.tcel_tool.specs.declared.status.Status.TheVariants.{Limit, Program}

-- `check PROGRAM`
abbrev pub name : List ℕ
name = codes "check"

abbrev pub slots : List Slot
slots = File ∷ []

abbrev pub stages : List Stage
stages = load 1 program_limit ∷ test tests.program ∷ test tests.faultless ∷ []

-- ---- faults and limits

-- the bytes are this program's, in which no fault and no limit stands
pub record IsFaultless (text : List ℕ) (tasks : List Task) : Type 0 where
  pub program : IsProgramText text tasks
  pub free : marks tasks ≡ []

-- the status for a fault or a limit at a place
abbrev pub status_at : At → Row → Status
status_at at (rows.Fault kind) = Program (Check kind) at
status_at at (rows.Limit kind) = Limit (Placed kind at)

-- the first fault or limit of a program, with this status
abbrev pub RefusesTasks : List Task → Status → Type 0
RefusesTasks tasks status = (mark : Mark) × (status ≡ status_at mark.at mark.row) × IsFirst (marks tasks) (Some mark)

-- the first one of the program that the bytes are
abbrev pub RefusesFaults : List ℕ → Status → Type 0
RefusesFaults text status = (tasks : List Task) × IsProgramText text tasks × RefusesTasks tasks status

-- ---- the text

-- one piece, `ok` and a line feed
pub record IsText (call : Call) (pieces : List (List ℕ)) : Type 0 where
  pub tasks : List Task
  pub faultless : IsFaultless (call.read 1) tasks
  pub is : pieces ≡ codes "ok\n" ∷ []
