-- Images that `compile` wrote, as `run` reads them.
use Rattle.std.proofs.Common.{◌≡◌, ℕ, List, [], ◌∷◌, inl, inr, map, refl, sym, subst, Option, Some, None}
use Rattle.std.specs.Prelude.{Ok, unwrap_or}
use Rattle.std.specs.List.{AllZip}
use Rattle.std.proofs.lemmas.List.{length-map}
use Rattle.tcel_code.specs.Layout.{form_task}
use Rattle.tcel_code.specs.Theorem.{HasStreams}
use Rattle.tcel_core.specs.Language.{Task}
use Rattle.tcel_core.specs.Meets.{Meets}
use Rattle.tcel_cost.specs.Forms.{Form, forms_of}
use Rattle.tcel_image.specs.declared.image.Image.{Image}
use Rattle.tcel_image.specs.Machine.{Streams, trace}
use Rattle.tcel_image.proofs.Whole.{told_apart, reading_again}
use Rattle.tcel_script.specs.Lines.{Line, script_lines}
use Rattle.tcel_script.specs.Script.{script_of, stream_in, streams_of, unless_fault}
use Rattle.tcel_script.specs.declared.fail.ScriptFail.{ScriptFail}
use Rattle.tcel_verify.specs.Ports.{port_row, port_rows}
use Rattle.tcel_tool.specs.CompileCommand.{image_bytes}
use Rattle.tcel_tool.specs.Headline.{KeepsItsPromise, image_for}
use Rattle.tcel_tool.specs.Answer.{OrMemory}
use Rattle.tcel_tool.specs.RunCommand.{IsImageIn, RefusesImage, Runs, Spells}
use Rattle.tcel_tool.specs.Stage.{Call}
use Rattle.tcel_tool.specs.Test as tests
use Rattle.tcel_tool.specs.declared.status.Status.{Status}
use Rattle.tcel_tool.specs.declared.status.Status.TheVariants as statuses
use Rattle.tcel_tool.specs.SetChoice.{Choice}
use Rattle.tcel_tool.proofs.TestLaws.{passes_or_refuses}
use Rattle.tcel_tool.specs.WrittenImages.{RunsOfWrittenImagesMeet, WrittenImagesAreTaken}

-- streams are given without a fault
pub given_streams : (fault : Option ScriptFail) (found streams : Streams) → unless_fault fault found ≡ Ok streams → found ≡ streams
given_streams None found streams e = cc
given_streams (Some fault) found streams e = absurd cc

-- a script gives each task a stream for each of its inputs
has_streams : (forms : List Form) (lines : List Line) → AllZip HasStreams (map (λ (f : Form). f.task) forms) (streams_of (map port_row (map form_task forms)) lines)
has_streams [] lines = tt
has_streams (form ∷ forms) lines = (length-map form.task.inputs (λ (input : List ℕ). unwrap_or (stream_in lines form.task.name input) []), has_streams forms lines)

-- the image that written bytes spell is the one that was written
pub same_image : (c : Choice) (kept : KeepsItsPromise c) (given : Image) → Spells (image_bytes c) given → image_for c ≡ given
same_image c kept given spells = told_apart (image_for c) given kept.spelled spells.range spells.spelled

-- what refuses the written bytes is want of memory
pub never_refused : (c : Choice) (kept : KeepsItsPromise c) (bytes : List ℕ) (status : Status) → bytes ≡ image_bytes c → OrMemory (RefusesImage bytes) status
    → status ≡ statuses.NoMemory
never_refused c kept bytes status are (inl none) = none
never_refused c kept bytes status are (inr refuses) =
    let call : Call = record { words = []; read = λ word. image_bytes c } in
    let given : IsImageIn (image_bytes c) (image_for c) = record { spells = record { range = kept.spelled; spelled = refl }; valid = kept.valid } in
    absurd (passes_or_refuses tests.image call status (image_for c, given) (subst (λ b. RefusesImage b status) are refuses))

-- the streams that a script gives to it are those of its set's inputs
pub streams_had : (c : Choice) (kept : KeepsItsPromise c) (script : List ℕ) (given : Image) (streams : Streams) → Runs (image_bytes c) script given streams
    → AllZip HasStreams c.set streams
streams_had c kept script given streams runs =
    let is = same_image c kept given runs.image_in.spells in
    let read = subst (λ (i : Image). script_of (port_rows i) script ≡ Ok streams) (sym is) runs.streams_in in
    let same = given_streams _ (streams_of (port_rows (image_for c)) (script_lines script)) streams read in
    let theirs = subst (λ (s : Streams). AllZip HasStreams (map (λ (f : Form). f.task) (forms_of c.sliced c.set c.parts)) s) same
    (has_streams (forms_of c.sliced c.set c.parts) (script_lines script)) in
    subst (λ (set : List Task). AllZip HasStreams set streams) kept.tasks theirs

pub runs_meet : RunsOfWrittenImagesMeet
runs_meet = λ c kept script given streams ticks runs.
    let is = same_image c kept given runs.image_in.spells in
    let meets = kept.runs streams ticks (streams_had c kept script given streams runs) in
    subst (λ (i : Image). Meets c.set c.plans streams ticks (trace i streams ticks)) is meets

pub are_taken : WrittenImagesAreTaken
are_taken = λ c kept. (reading_again (image_for c) kept.spelled, kept.valid)
