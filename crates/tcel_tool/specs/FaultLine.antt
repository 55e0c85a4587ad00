-- The line that tells a refusal, in the pieces in which it is put: the texts, and the words and numbers between them.
use Rattle.std.specs.Prelude.{ℕ, List, [], ◌∷◌, ◌++◌, codes}
use Rattle.std.specs.Fmt.{decimal}
use Rattle.tcel_num.specs.declared.at.At.{At}
use Rattle.tcel_num.specs.Lateness.{Lateness}
use Rattle.tcel_num.specs.Plan.{PointName, frame, before, within}
use Rattle.tcel_check.specs.declared.fail.CheckKind.{CheckKind}
use Rattle.tcel_check.specs.declared.fail.CheckKind.TheVariants as checks
use Rattle.tcel_check.specs.declared.fail.LimitKind.{LimitKind}
use Rattle.tcel_check.specs.declared.fail.LimitKind.TheVariants as placed
use Rattle.tcel_image.specs.declared.fault.ImageFail.{ImageFail}
use Rattle.tcel_image.specs.declared.fault.ImageFail.TheVariants as fails
use Rattle.tcel_image.specs.declared.flaw.Flaw.{Flaw}
use Rattle.tcel_image.specs.declared.flaw.FlawKind.{FlawKind}
use Rattle.tcel_image.specs.declared.flaw.FlawKind.TheVariants as flaws
use Rattle.tcel_link.specs.declared.fail.LinkFail.{LinkFail}
use Rattle.tcel_link.specs.declared.fail.LinkFail.TheVariants as links
use Rattle.tcel_target.specs.declared.fail.TargetFail.{TargetFail}
use Rattle.tcel_target.specs.declared.fail.TargetFail.TheVariants as targets
use Rattle.tcel_target.specs.Target.{key_text}
use Rattle.tcel_script.specs.declared.fail.ScriptFail.{ScriptFail}
use Rattle.tcel_script.specs.declared.fail.ScriptFail.TheVariants as scripts
use Rattle.tcel_judge.specs.declared.verdict.Breach.{Breach}
use Rattle.tcel_judge.specs.declared.verdict.Breach.TheVariants as breaches
use Rattle.tcel_judge.specs.declared.verdict.Due.{Due}
use Rattle.tcel_judge.specs.declared.verdict.Due.TheVariants as dues
use Rattle.tcel_trace.specs.declared.trace_fail.TraceFail.{TraceFail}
use Rattle.tcel_trace.specs.declared.trace_fail.TraceFail.TheVariants as traces
use Rattle.tcel_tool.specs.declared.status.Status.{Status}
use Rattle.tcel_tool.specs.declared.status.Status.TheVariants as statuses
use Rattle.tcel_tool.specs.declared.status.LimitFault.{LimitFault}
use Rattle.tcel_tool.specs.declared.status.LimitFault.TheVariants as limits
use Rattle.tcel_tool.specs.declared.status.CountKind.{CountKind}
use Rattle.tcel_tool.specs.declared.status.CountKind.TheVariants.{Ticks, MeanFrames, FewestTasks, MadeTasks}
use Rattle.tcel_tool.specs.declared.status.ProgramKind.{ProgramKind}
use Rattle.tcel_tool.specs.declared.status.ProgramKind.TheVariants as kinds
use Rattle.tcel_tool.specs.CommandLine.{word_at}

-- what stands too often in a program, in front of its place
abbrev pub limit_text : LimitKind → List ℕ
limit_text placed.Tasks = codes "limit: tasks above 16 at "
limit_text placed.Variables = codes "limit: variables above 256 at "
limit_text placed.Words = codes "limit: words above 4096 at "
limit_text placed.Nodes = codes "limit: nodes above 4000 at "
limit_text placed.Windows = codes "limit: windows above 31 at "

-- a number that is above the greatest one allowed
abbrev pub count_pieces : CountKind → ℕ → List (List ℕ)
count_pieces Ticks value = codes "limit: ticks " ∷ decimal value ∷ codes " above 10000000\n" ∷ []
count_pieces MeanFrames value = codes "limit: mean frames " ∷ decimal value ∷ codes " above 10000\n" ∷ []
count_pieces MadeTasks value = codes "limit: made tasks " ∷ decimal value ∷ codes " above 16\n" ∷ []
count_pieces FewestTasks value = codes "limit: fewest tasks " ∷ decimal value ∷ codes " above 12\n" ∷ []

abbrev pub limit_pieces : List (List ℕ) → LimitFault → List ℕ → List (List ℕ)
limit_pieces words (limits.Bytes word limit) task = codes "limit: bytes of " ∷ word_at words word ∷ codes " above " ∷ decimal limit ∷ codes "\n" ∷ []
limit_pieces words (limits.Count kind value) task = count_pieces kind value
limit_pieces words (limits.Nesting at) task = codes "limit: nesting above 32 at " ∷ decimal at.line ∷ codes ":" ∷ decimal at.column ∷ codes "\n" ∷ []
limit_pieces words (limits.Operators at) task = codes "limit: operators above 64 at " ∷ decimal at.line ∷ codes ":" ∷ decimal at.column ∷ codes "\n" ∷ []
limit_pieces words (limits.Placed kind at) task = limit_text kind ∷ decimal at.line ∷ codes ":" ∷ decimal at.column ∷ codes "\n" ∷ []
limit_pieces words (limits.Cells number n) task = codes "limit: cells " ∷ decimal n ∷ codes " above 65536 in task " ∷ task ∷ codes "\n" ∷ []
limit_pieces words (limits.Cycles number cycles) task = codes "limit: cycles " ∷ decimal cycles ∷ codes " above 1000000000 in task " ∷ task ∷ codes "\n" ∷ []
limit_pieces words (limits.Hyper number) task = codes "limit: hyperperiod above 1000000000000 at task " ∷ task ∷ codes "\n" ∷ []
limit_pieces words (limits.Frames frames) task = codes "limit: frames " ∷ decimal frames ∷ codes " above 1000000\n" ∷ []

-- the fault of a program that follows the grammar
abbrev pub check_text : CheckKind → List ℕ
check_text checks.Twice = codes "declared twice"
check_text checks.Unknown = codes "unknown name"
check_text checks.WrongType = codes "wrong type"
check_text checks.NotAPort = codes "not a port of this kind"
check_text checks.WindowInLoop = codes "window in a loop"
check_text checks.LoopDepth = codes "loops too deep"
check_text checks.SamePriority = codes "same priority"
check_text checks.BadBound = codes "bound out of range"

-- what goes wrong in a program
abbrev pub program_text : ProgramKind → List ℕ
program_text kinds.BadByte = codes "bad byte"
program_text kinds.BadNumber = codes "bad number"
program_text kinds.NameTooLong = codes "name too long"
program_text kinds.Unexpected = codes "unexpected token"
program_text (kinds.Check kind) = check_text kind

-- and where
abbrev pub program_pieces : ProgramKind → At → List (List ℕ)
program_pieces kind at = codes "program " ∷ decimal at.line ∷ codes ":" ∷ decimal at.column ∷ codes ": " ∷ program_text kind ∷ codes "\n" ∷ []

-- the fault of bytes that spell no image
abbrev pub image_pieces : ImageFail → List (List ℕ)
image_pieces fails.BadMagic = codes "image: bad magic\n" ∷ []
image_pieces (fails.Short at) = codes "image: short at " ∷ decimal at ∷ codes "\n" ∷ []
image_pieces (fails.BadField at) = codes "image: bad field at " ∷ decimal at ∷ codes "\n" ∷ []
image_pieces (fails.Extra at) = codes "image: extra at " ∷ decimal at ∷ codes "\n" ∷ []
image_pieces fails.NoMemory = codes "no memory\n" ∷ []

abbrev pub flaw_text : FlawKind → List ℕ
flaw_text flaws.BadPeriod = codes "bad period"
flaw_text flaws.SameName = codes "same name"
flaw_text flaws.JumpOut = codes "jump out"
flaw_text flaws.BadCell = codes "bad cell"
flaw_text flaws.BadPort = codes "bad port"
flaw_text flaws.BadDepth = codes "bad depth"
flaw_text flaws.FallsOff = codes "falls off"

-- a flaw of an image, with its task and place
abbrev pub flaw_pieces : Flaw → List (List ℕ)
flaw_pieces flaw = codes "image: " ∷ flaw_text flaw.kind ∷ codes " task " ∷ decimal flaw.task ∷ codes " pc " ∷ decimal flaw.pc ∷ codes "\n" ∷ []

-- the fault of a target
abbrev pub target_pieces : TargetFail → List (List ℕ)
target_pieces targets.NotToml = codes "target: not toml\n" ∷ []
target_pieces (targets.Strange text) = codes "target: strange " ∷ text ∷ codes "\n" ∷ []
target_pieces (targets.Missing key) = codes "target: missing " ∷ key_text key ∷ codes "\n" ∷ []
target_pieces (targets.Range key) = codes "target: range " ∷ key_text key ∷ codes "\n" ∷ []
target_pieces targets.NoMemory = codes "no memory\n" ∷ []

-- the first faulty line of a script
abbrev pub script_pieces : ScriptFail → List (List ℕ)
script_pieces (scripts.BadLine line) = codes "script " ∷ decimal line ∷ codes ": bad line\n" ∷ []
script_pieces (scripts.NoPort line) = codes "script " ∷ decimal line ∷ codes ": no port\n" ∷ []
script_pieces (scripts.PortTwice line) = codes "script " ∷ decimal line ∷ codes ": port twice\n" ∷ []
script_pieces (scripts.Number line) = codes "script " ∷ decimal line ∷ codes ": number\n" ∷ []
script_pieces scripts.NoMemory = codes "no memory\n" ∷ []

-- the first faulty line of a trace
abbrev pub trace_pieces : TraceFail → List (List ℕ)
trace_pieces (traces.BadTrace line) = codes "trace " ∷ decimal line ∷ codes ": bad line\n" ∷ []
trace_pieces traces.NoMemory = codes "no memory\n" ∷ []

-- an entry of a frame that is missing, up to the frame's number
abbrev pub missing_pieces : Due → List (List ℕ)
missing_pieces (dues.Event number) = codes "trace: missing event " ∷ decimal number ∷ codes " of frame " ∷ []
missing_pieces dues.First = codes "trace: missing first of frame " ∷ []
missing_pieces dues.End = codes "trace: missing end of frame " ∷ []

-- the first breach of a trace
abbrev pub breach_pieces : Breach → List ℕ → List (List ℕ)
breach_pieces (breaches.Order line) task = codes "trace " ∷ decimal line ∷ codes ": time out of order\n" ∷ []
breach_pieces (breaches.Unknown line) task = codes "trace " ∷ decimal line ∷ codes ": unknown task\n" ∷ []
breach_pieces (breaches.Entry line) task = codes "trace " ∷ decimal line ∷ codes ": wrong entry\n" ∷ []
breach_pieces (breaches.Early line) task = codes "trace " ∷ decimal line ∷ codes ": early\n" ∷ []
breach_pieces (breaches.Overdue line) task = codes "trace " ∷ decimal line ∷ codes ": overdue\n" ∷ []
breach_pieces (breaches.Missing number in_frame what) task =
    missing_pieces what ++ decimal in_frame ∷ codes " of task " ∷ task ∷ codes "\n" ∷ []

-- the first faulty line of links
abbrev pub link_pieces : LinkFail → List (List ℕ)
link_pieces (links.BadLine line) = codes "links " ∷ decimal line ∷ codes ": bad line\n" ∷ []
link_pieces (links.NoOutput line) = codes "links " ∷ decimal line ∷ codes ": no output\n" ∷ []
link_pieces (links.NoInput line) = codes "links " ∷ decimal line ∷ codes ": no input\n" ∷ []
link_pieces (links.InputTwice line) = codes "links " ∷ decimal line ∷ codes ": input twice\n" ∷ []
link_pieces (links.InLoop line) = codes "links " ∷ decimal line ∷ codes ": receive in a loop\n" ∷ []
link_pieces links.NoMemory = codes "no memory\n" ∷ []

-- a point of a plan, by its word and its number
abbrev pub point_word : PointName → List ℕ
point_word frame = codes "frame"
point_word (before n) = codes "before "
point_word (within n) = codes "within "

abbrev pub point_number : PointName → List ℕ
point_number frame = []
point_number (before n) = decimal n
point_number (within n) = decimal n

-- a late point of a task
abbrev pub late_pieces : Lateness → List ℕ → List (List ℕ)
late_pieces late task =
    codes "rejected: late task " ∷ task ∷ codes " frame " ∷ decimal late.frame ∷ codes " point " ∷ point_word late.name ∷ point_number late.name
    ∷ codes " response " ∷ decimal late.response ∷ codes " bound " ∷ decimal late.bound ∷ codes "\n" ∷ []

-- the pieces of the line for a status, with the name of the task that it tells, where it tells one
abbrev pub fault_pieces : List (List ℕ) → Status → List ℕ → List (List ℕ)
fault_pieces words statuses.Ok task = []
fault_pieces words (statuses.Late late) task = late_pieces late task
fault_pieces words (statuses.Overload demand hyper) task =
    codes "rejected: overload demand " ∷ decimal demand ∷ codes " hyperperiod " ∷ decimal hyper ∷ codes "\n" ∷ []
fault_pieces words (statuses.Program kind at) task = program_pieces kind at
fault_pieces words (statuses.Limit fault) task = limit_pieces words fault task
fault_pieces words statuses.Words task = codes "words: no command has this form\n" ∷ []
fault_pieces words (statuses.ReadFault word) task = codes "read fault: " ∷ word_at words word ∷ codes "\n" ∷ []
fault_pieces words statuses.WriteFault task = codes "write fault\n" ∷ []
fault_pieces words statuses.NoMemory task = codes "no memory\n" ∷ []
fault_pieces words (statuses.Target fail) task = target_pieces fail
fault_pieces words (statuses.Image fail) task = image_pieces fail
fault_pieces words (statuses.Flaw flaw) task = flaw_pieces flaw
fault_pieces words (statuses.Script fail) task = script_pieces fail
fault_pieces words (statuses.Breach breach) task = breach_pieces breach task
fault_pieces words (statuses.Trace fail) task = trace_pieces fail
fault_pieces words (statuses.Link fail) task = link_pieces fail
