-- The command `judge`: what it refuses, and what it writes.
use Rattle.std.specs.Prelude.{◌≡◌, ℕ, List, [], ◌∷◌, ◌++◌, Ok, codes}
use Rattle.tcel_core.specs.Ports.{port_rows}
use Rattle.tcel_judge.specs.FirstBreach.{Says, judged_of}
use Rattle.tcel_judge.specs.declared.verdict.Breach.{Breach}
use Rattle.tcel_judge.specs.declared.verdict.Verdict.{Verdict}
use Rattle.tcel_judge.specs.declared.verdict.Verdict.TheVariants.{No, Yes}
use Rattle.tcel_script.specs.Script.{Streams, script_of}
use Rattle.tcel_trace.specs.TraceForm.{IsBadAt, IsTrace}
use Rattle.tcel_trace.specs.declared.trace_fail.TraceFail.TheVariants.{BadTrace}
use Rattle.tcel_trace.specs.declared.trace_line.TraceLine.{TraceLine}
use Rattle.tcel_tool.specs.CommandLine.{number_at}
use Rattle.tcel_tool.specs.RunCommand.{most_ticks}
use Rattle.tcel_tool.specs.ScriptText.{script_limit}
use Rattle.tcel_tool.specs.SetChoice.{Choice, IsChoiceFor, choice_stages}
use Rattle.tcel_tool.specs.Stage.{Call, Stage, load, bound, test}
use Rattle.tcel_tool.specs.Test as tests
use Rattle.tcel_tool.specs.declared.command.Slot.{Slot}
use Rattle.tcel_tool.specs.declared.command.Slot.TheVariants.{File, Number}
use Rattle.tcel_tool.specs.declared.status.CountKind.TheVariants.{Ticks}
use Rattle.tcel_tool.specs.declared.status.Status.{Status}
use Rattle.tcel_tool.specs.declared.status.Status.TheVariants as statuses

-- `judge PROGRAM TARGET SCRIPT TRACE TICKS`
abbrev pub name : List ℕ
name = codes "judge"

abbrev pub slots : List Slot
slots = File ∷ File ∷ File ∷ File ∷ Number ∷ []

-- the most bytes of a trace
abbrev pub trace_limit : ℕ
trace_limit = 16777216

-- the stages behind the choice
abbrev pub trace_stages : List Stage
trace_stages = load 3 script_limit ∷ test (tests.inputs 3) ∷ load 4 trace_limit ∷ test tests.trace ∷ test tests.verdict ∷ []

abbrev pub stages : List Stage
stages = bound Ticks 5 most_ticks ∷ (choice_stages ++ trace_stages)

-- ---- the trace

-- the first of its lines without the form of one, with this status
abbrev pub RefusesTrace : List ℕ → Status → Type 0
RefusesTrace bytes (statuses.Trace (BadTrace number)) = IsBadAt bytes number
RefusesTrace bytes _ = ⊥

-- ---- the verdict

-- what a judge says of lines as those of a choice's tasks, on these streams, in so many ticks
abbrev pub SaysOf : Choice → Streams → ℕ → List TraceLine → Verdict → Type 0
SaysOf c streams ticks lines verdict = Says (judged_of c.set streams) c.plans ticks lines verdict

-- there is a breach, with this status
abbrev pub IsBreach : Choice → Streams → ℕ → List TraceLine → Status → Type 0
IsBreach c streams ticks lines status = (breach : Breach) × (status ≡ statuses.Breach breach) × SaysOf c streams ticks lines (No breach)

-- the choice for the program and the target, the streams of the script, the lines of the trace, and what a judge says of them
pub record IsJudged (call : Call) (verdict : Verdict) : Type 0 where
  pub choice : Choice
  pub for : IsChoiceFor (call.read 1) (call.read 2) choice
  pub streams : Streams
  pub streams_in : script_of (port_rows choice.set) (call.read 3) ≡ Ok streams
  pub lines : List TraceLine
  pub lines_in : IsTrace lines (call.read 4)
  pub says : SaysOf choice streams (number_at call.words 5) lines verdict

-- the first breach of the lines, with this status
abbrev pub RefusesBreach : Call → Status → Type 0
RefusesBreach call status = (breach : Breach) × (status ≡ statuses.Breach breach) × IsJudged call (No breach)

-- ---- the text

-- one piece, `yes` and a line feed
pub record IsText (call : Call) (pieces : List (List ℕ)) : Type 0 where
  pub accepted : IsJudged call Yes
  pub is : pieces ≡ codes "yes\n" ∷ []
