-- The commands: each is its words, its stages and its text.
use Rattle.std.specs.Prelude.{ℕ, List, Option}
use Rattle.tcel_image.specs.Machine.{Streams}
use Rattle.tcel_image.specs.declared.image.Image.{Image}
use Rattle.tcel_judge.specs.declared.verdict.Verdict.TheVariants.{Yes}
use Rattle.tcel_link.specs.declared.link.Link.{Link}
use Rattle.tcel_target.specs.declared.costs.Costs.{Costs}
use Rattle.tcel_trace.specs.TraceForm.{IsTrace}
use Rattle.tcel_trace.specs.declared.trace_line.TraceLine.{TraceLine}
use Rattle.tcel_tree.specs.Language.{Task}
use Rattle.tcel_tool.specs.AnalyseCommand as analyse
use Rattle.tcel_tool.specs.CheckCommand as check
use Rattle.tcel_tool.specs.CommandLine.{AreWords}
use Rattle.tcel_tool.specs.CompileCommand as compile
use Rattle.tcel_tool.specs.FewestCommand as fewest
use Rattle.tcel_tool.specs.FormatCommand as format
use Rattle.tcel_tool.specs.JudgeCommand as judge
use Rattle.tcel_tool.specs.LinkedCommand as linked
use Rattle.tcel_tool.specs.MakeCommand as make
use Rattle.tcel_tool.specs.MeanCommand as mean
use Rattle.tcel_tool.specs.ProgramText.{IsProgramText, RefusesText}
use Rattle.tcel_tool.specs.RunCommand as run
use Rattle.tcel_tool.specs.SetChoice.{Choice, IsChoiceFor, IsUnitChoice, NamesTask, RefusesChoice, RefusesUnitChoice}
use Rattle.tcel_tool.specs.SetForms.{AreFormsFor, RefusesForms, SetForms}
use Rattle.tcel_tool.specs.Stage.{Call, Stage}
use Rattle.tcel_tool.specs.TargetText.{GivesCosts, RefusesTarget}
use Rattle.tcel_tool.specs.Test.{Test}
use Rattle.tcel_tool.specs.Test as tests
use Rattle.tcel_tool.specs.TimelineCommand as timeline
use Rattle.tcel_tool.specs.TrialCommand as trial
use Rattle.tcel_tool.specs.declared.command.Command.{Command}
use Rattle.tcel_tool.specs.declared.command.Command.TheVariants.{Compile, Run, Format, Check, Mean, Analyse, Timeline, Linked, Fewest, Make, Trial, Judge}
use Rattle.tcel_tool.specs.declared.command.Slot.{Slot}
use Rattle.tcel_tool.specs.declared.status.Status.{Status}

abbrev pub name_of : Command → List ℕ
name_of Compile = compile.name
name_of Run = run.name
name_of Format = format.name
name_of Check = check.name
name_of Mean = mean.name
name_of Analyse = analyse.name
name_of Timeline = timeline.name
name_of Linked = linked.name
name_of Fewest = fewest.name
name_of Make = make.name
name_of Trial = trial.name
name_of Judge = judge.name

abbrev pub slots_of : Command → List Slot
slots_of Compile = compile.slots
slots_of Run = run.slots
slots_of Format = format.slots
slots_of Check = check.slots
slots_of Mean = mean.slots
slots_of Analyse = analyse.slots
slots_of Timeline = timeline.slots
slots_of Linked = linked.slots
slots_of Fewest = fewest.slots
slots_of Make = make.slots
slots_of Trial = trial.slots
slots_of Judge = judge.slots

abbrev pub stages_of : Command → List Stage
stages_of Compile = compile.stages
stages_of Run = run.stages
stages_of Format = format.stages
stages_of Check = check.stages
stages_of Mean = mean.stages
stages_of Analyse = analyse.stages
stages_of Timeline = timeline.stages
stages_of Linked = linked.stages
stages_of Fewest = fewest.stages
stages_of Make = make.stages
stages_of Trial = trial.stages
stages_of Judge = judge.stages

-- what a command writes to its output, in pieces, each by one put
abbrev pub IsText : Command → Call → List (List ℕ) → Type 0
IsText Compile = compile.IsText
IsText Run = run.IsText
IsText Format = format.IsText
IsText Check = check.IsText
IsText Mean = mean.IsText
IsText Analyse = analyse.IsText
IsText Timeline = timeline.IsText
IsText Linked = linked.IsText
IsText Fewest = fewest.IsText
IsText Make = make.IsText
IsText Trial = trial.IsText
IsText Judge = judge.IsText

-- what passes a test
abbrev pub Passes : Test → Call → Type 0
Passes tests.target call = (costs : Costs) × GivesCosts (call.read 2) costs
Passes tests.choice call = (choice : Choice) × IsChoiceFor (call.read 1) (call.read 2) choice
Passes tests.unit_choice call = (choice : Choice) × IsUnitChoice (call.read 1) choice
Passes tests.image call = (given : Image) × run.IsImageIn (call.read 1) given
Passes tests.script call = (given : Image) × (streams : Streams) × run.Runs (call.read 1) (call.read 2) given streams
Passes tests.program call = (tasks : List Task) × IsProgramText (call.read 1) tasks
Passes tests.faultless call = (tasks : List Task) × check.IsFaultless (call.read 1) tasks
Passes (tests.inputs word) call = (tasks : List Task) × (streams : Streams) × mean.Means (call.read 1) (call.read word) tasks streams
Passes tests.links call = (tasks : List Task) × (links : List Link) × linked.Links (call.read 1) (call.read 3) tasks links
Passes tests.few call = (tasks : List Task) × fewest.HasFewTasks (call.read 1) tasks
Passes tests.forms call = (forms : SetForms) × AreFormsFor (call.read 1) (call.read 2) forms
Passes tests.trace call = (lines : List TraceLine) × IsTrace lines (call.read 4)
Passes tests.verdict call = judge.IsJudged call Yes

-- what a test refuses, with this status
abbrev pub Refuses : Test → Call → Status → Type 0
Refuses tests.target call = RefusesTarget (call.read 2)
Refuses tests.choice call = RefusesChoice (call.read 1) (call.read 2)
Refuses tests.unit_choice call = RefusesUnitChoice (call.read 1)
Refuses tests.image call = run.RefusesImage (call.read 1)
Refuses tests.script call = run.RefusesScript (call.read 1) (call.read 2)
Refuses tests.program call = RefusesText (call.read 1)
Refuses tests.faultless call = check.RefusesFaults (call.read 1)
Refuses (tests.inputs word) call = mean.RefusesInputs (call.read 1) (call.read word)
Refuses tests.links call = linked.RefusesLinks (call.read 1) (call.read 3)
Refuses tests.few call = fewest.RefusesMany (call.read 1)
Refuses tests.forms call = RefusesForms (call.read 1) (call.read 2)
Refuses tests.trace call = judge.RefusesTrace (call.read 4)
Refuses tests.verdict call = judge.RefusesBreach call

-- where the status of a test's refusal tells a task, this is its name
abbrev pub Names : Test → Call → Status → Option (List ℕ) → Type 0
Names tests.choice call status task = NamesTask (call.read 1) status task
Names tests.unit_choice call status task = NamesTask (call.read 1) status task
Names tests.forms call status task = NamesTask (call.read 1) status task
Names tests.verdict call status task = NamesTask (call.read 1) status task
Names _ call status task = Unit {0}

-- the words have the form of this command
abbrev pub HasForm : Command → List (List ℕ) → Type 0
HasForm command = AreWords (name_of command) (slots_of command)

-- they have the form of none
abbrev pub HaveNoForm : List (List ℕ) → Type 0
HaveNoForm words = (command : Command) → HasForm command words → ⊥
