-- What a judge says of the runs of compiled programs.
use Rattle.std.specs.Prelude.{◌≡◌, ℕ, ◌<◌, ◌^◌, List, All, FitsSigned}
use Rattle.std.specs.Int.{w64}
use Rattle.std.specs.List.{AllZip}
use Rattle.tcel_code.specs.Theorem.{HasStreams}
use Rattle.tcel_image.specs.Machine.{Streams, trace}
use Rattle.tcel_image.specs.TraceText.{text}
use Rattle.tcel_image.specs.declared.image.Image.{Image}
use Rattle.tcel_trace.specs.TraceForm.{IsTrace}
use Rattle.tcel_trace.specs.declared.trace_line.TraceLine.{TraceLine}
use Rattle.tcel_judge.specs.FirstBreach.{Says, judged_of}
use Rattle.tcel_judge.specs.declared.verdict.Verdict.TheVariants.{Yes}
use Rattle.tcel_tool.specs.CommandLine.{number_at}
use Rattle.tcel_tool.specs.CompileCommand.{image_bytes}
use Rattle.tcel_tool.specs.Headline.{image_for}
use Rattle.tcel_tool.specs.JudgeCommand.{IsJudged}
use Rattle.tcel_tool.specs.RunCommand.{Runs}
use Rattle.tcel_tool.specs.SetChoice.{Choice, IsBest, IsChoiceFor}
use Rattle.tcel_tool.specs.Stage.{Call}

-- the values of all inputs are of 64 bits
abbrev pub StreamsInRange : Streams → Type 0
StreamsInRange streams = All (All (All (FitsSigned w64))) streams

-- the bytes are the text of lines that the judge accepts, as a trace of so many ticks of the set of a choice
pub record AreAccepted (c : Choice) (streams : Streams) (ticks : ℕ) (bytes : List ℕ) : Type 0 where
  pub lines : List TraceLine
  pub text : IsTrace lines bytes
  pub says : Says (judged_of c.set streams) c.plans ticks lines Yes

-- so is the text of every run of a choice's image, over any streams and for any number of ticks
abbrev pub RunsAreAccepted : Type 0
RunsAreAccepted =
    (c : Choice) → IsBest c → (streams : Streams) (ticks : ℕ) → AllZip HasStreams c.set streams → StreamsInRange streams → ticks < 2 ^ 64
    → AreAccepted c streams ticks (text (image_for c) (trace (image_for c) streams ticks))

-- and so is what `run` shows of an image that `compile` wrote, whatever script goes with it
abbrev pub RunsOfWrittenImagesAreAccepted : Type 0
RunsOfWrittenImagesAreAccepted =
    (c : Choice) → IsBest c → (script : List ℕ) (given : Image) (streams : Streams) (ticks : ℕ) → Runs (image_bytes c) script given streams → ticks < 2 ^ 64
    → AreAccepted c streams ticks (text given (trace given streams ticks))

-- so `judge` says yes of what `run` shows of the image that `compile` writes for the same program and target, over the same script and in as many ticks
abbrev pub JudgeAcceptsRuns : Type 0
JudgeAcceptsRuns =
    (call : Call) (c : Choice) (given : Image) (streams : Streams) → IsChoiceFor (call.read 1) (call.read 2) c → Runs (image_bytes c) (call.read 3) given streams
    → number_at call.words 5 < 2 ^ 64 → call.read 4 ≡ text given (trace given streams (number_at call.words 5)) → IsJudged call Yes
