-- How `run` goes on behind its image and behind its script.
use Rattle.std.proofs.Common.{◌≡◌, ◌∙◌, ℕ, ◌≤◌, List, [], ◌∷◌, Ok, ap, inl, inr, subst}
use Rattle.tcel_io.specs.Shelf.{SeenShelf}
use Rattle.tcel_image.specs.Machine.{Streams}
use Rattle.tcel_image.specs.declared.image.Image.{Image}
use Rattle.tcel_machine.specs.Run.{Run, loaded}
use Rattle.tcel_script.specs.Script.{script_of}
use Rattle.tcel_verify.specs.Ports.{port_rows}
use Rattle.tcel_tool.specs.Answer.{Ended, Goes, Loads, OrMemory, begun, with_read}
use Rattle.tcel_tool.specs.CommandLine.{number_at}
use Rattle.tcel_tool.specs.Commands.{stages_of}
use Rattle.tcel_tool.specs.Lines.{lines}
use Rattle.tcel_tool.specs.RunCommand.{IsImageIn, IsText, RefusesScript, trace_lines}
use Rattle.tcel_tool.specs.ScriptText.{RefusesLines}
use Rattle.tcel_tool.specs.Stage.{Call, test}
use Rattle.tcel_tool.specs.Test as tests
use Rattle.tcel_tool.specs.declared.command.Command.TheVariants.{Run as run}
use Rattle.tcel_tool.specs.declared.status.Status.{Status}

-- the number of ticks is within its bound, both files were loaded, and the first has this image
pub record ReadImage (words : List (List ℕ)) (shelf last : SeenShelf) (image script : List ℕ) (given : Image) : Type 0 where
  pub few : number_at words 3 ≤ 10000000
  pub next : SeenShelf
  pub first : Loads words 1 16777216 shelf next image
  pub is : IsImageIn image given
  pub second : Loads words 2 16777216 next last script

-- what a reader found in bytes that are those of the file
abbrev pub read_image : {words : List (List ℕ)} {shelf next last : SeenShelf} {image script : List ℕ} {given : Image} (bytes : List ℕ) → number_at words 3 ≤ 10000000
    → Loads words 1 16777216 shelf next image → bytes ≡ image → IsImageIn bytes given → Loads words 2 16777216 next last script → ReadImage words shelf last image script given
read_image {next = next} {given = given} bytes few first same is second =
    record { few = few; next = next; first = first; is = subst (λ t. IsImageIn t given) same is; second = second }

-- the bytes of both files
abbrev pub with_both : List (List ℕ) → List ℕ → List ℕ → Call
with_both words image script = with_read 2 script (with_read 1 image (begun words))

module _ {words : List (List ℕ)} {shelf last : SeenShelf} {image script : List ℕ} {given : Image} (end : Ended) (read : ReadImage words shelf last image script given) where
  pub behind_image : Goes run end (test tests.script ∷ []) (with_both words image script) last → Goes run end (stages_of run) (begun words) shelf
  behind_image rest = inr (read.few, inr (image, read.next, read.first, inr ((given, read.is), inr (script, last, read.second, rest))))

  -- the script is refused
  pub faulty_lines : (status : Status) → OrMemory (RefusesLines (port_rows given) script) status → OrMemory (RefusesScript image script) status
  faulty_lines status (inl e) = inl e
  faulty_lines status (inr h) = inr (given, read.is, h)

  module _ {streams : Streams} (bytes : List ℕ) (same : bytes ≡ script) (streams_are : script_of (port_rows given) bytes ≡ Ok streams) where
    abbrev streams_in : script_of (port_rows given) script ≡ Ok streams
    streams_in = subst (λ t. script_of (port_rows given) t ≡ Ok streams) same streams_are

    pub behind_script : Goes run end [] (with_both words image script) last → Goes run end (stages_of run) (begun words) shelf
    behind_script rest = behind_image (inr ((given, streams, record { image_in = read.is; streams_in = streams_in }), rest))

    -- the lines of the ticks are the text
    pub lines_are : (machine : Run) (ticks : ℕ) → machine ≡ loaded given streams → ticks ≡ number_at words 3 → IsText (with_both words image script) (lines machine ticks)
    lines_are machine ticks is_loaded e = record {
      given = given;
      streams = streams;
      runs = record { image_in = read.is; streams_in = streams_in };
      is = ap (λ (m : Run). lines m ticks) is_loaded ∙ ap (trace_lines given streams) e;
    }
