-- The command `run`: what it refuses, and what it writes.
use Rattle.std.specs.Prelude.{◌≡◌, ◌≢◌, ℕ, List, [], ◌∷◌, Err, Ok, map, codes}
use Rattle.tcel_image.specs.Machine.{Streams, trace}
use Rattle.tcel_image.specs.Reading.{reading}
use Rattle.tcel_image.specs.Spelling.{spelling, InRange}
use Rattle.tcel_image.specs.TraceText.{line}
use Rattle.tcel_image.specs.Validity.{IsValid, IsFirstFlaw}
use Rattle.tcel_image.specs.declared.fault.ImageFail.TheVariants as image_fails
use Rattle.tcel_image.specs.declared.image.Image.{Image}
use Rattle.tcel_script.specs.Script.{script_of}
use Rattle.tcel_verify.specs.Ports.{port_rows}
use Rattle.tcel_tool.specs.CommandLine.{number_at}
use Rattle.tcel_tool.specs.ScriptText.{RefusesLines, script_limit}
use Rattle.tcel_tool.specs.Stage.{Call, Stage, load, bound, test}
use Rattle.tcel_tool.specs.Test as tests
use Rattle.tcel_tool.specs.declared.command.Slot.{Slot}
use Rattle.tcel_tool.specs.declared.command.Slot.TheVariants.{File, Number}
use Rattle.tcel_tool.specs.declared.status.CountKind.TheVariants.{Ticks}
use Rattle.tcel_tool.specs.declared.status.Status.{Status}
use Rattle.tcel_tool.specs.declared.status.Status.TheVariants as statuses

-- `run IMAGE SCRIPT TICKS`
abbrev pub name : List ℕ
name = codes "run"

abbrev pub slots : List Slot
slots = File ∷ File ∷ Number ∷ []

-- the most bytes of an image
abbrev pub run_limit : ℕ
run_limit = 16777216

-- the most ticks of a run
abbrev pub most_ticks : ℕ
most_ticks = 10000000

abbrev pub stages : List Stage
stages = bound Ticks 3 most_ticks ∷ load 1 run_limit ∷ test tests.image ∷ load 2 script_limit ∷ test tests.script ∷ []

-- ---- the image

-- the bytes spell this image
pub record Spells (bytes : List ℕ) (given : Image) : Type 0 where
  pub range : InRange given
  pub spelled : bytes ≡ spelling given

-- and it is valid
pub record IsImageIn (bytes : List ℕ) (given : Image) : Type 0 where
  pub spells : Spells bytes given
  pub valid : IsValid given

abbrev pub RefusesImage : List ℕ → Status → Type 0
RefusesImage bytes (statuses.Image fail) = (fail ≢ image_fails.NoMemory) × (reading bytes ≡ Err fail)
RefusesImage bytes (statuses.Flaw flaw) = (given : Image) × Spells bytes given × IsFirstFlaw given flaw
RefusesImage bytes _ = ⊥

-- ---- the script

-- the files give this image and the streams of its inputs
pub record Runs (bytes lines : List ℕ) (given : Image) (streams : Streams) : Type 0 where
  pub image_in : IsImageIn bytes given
  pub streams_in : script_of (port_rows given) lines ≡ Ok streams

-- the first faulty line of a script for this image
abbrev pub RefusesScript : List ℕ → List ℕ → Status → Type 0
RefusesScript bytes lines status = (given : Image) × IsImageIn bytes given × RefusesLines (port_rows given) lines status

-- ---- the text

-- the lines of the trace, one for each entry
abbrev pub trace_lines : Image → Streams → ℕ → List (List ℕ)
trace_lines given streams ticks = map (line given) (trace given streams ticks)

-- a piece for each line of the trace
pub record IsText (call : Call) (pieces : List (List ℕ)) : Type 0 where
  pub given : Image
  pub streams : Streams
  pub runs : Runs (call.read 1) (call.read 2) given streams
  pub is : pieces ≡ trace_lines given streams (number_at call.words 3)
