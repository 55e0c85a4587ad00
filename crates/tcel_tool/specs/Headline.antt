-- The promise of the compiler: every run of a written image does what the source says.
use Rattle.std.specs.Prelude.{◌≡◌, ℕ, map}
use Rattle.std.specs.List.{AllZip}
use Rattle.tcel_code.specs.Layout.{layout}
use Rattle.tcel_code.specs.Theorem.{HasStreams}
use Rattle.tcel_core.specs.Meets.{Meets}
use Rattle.tcel_cost.specs.Forms.{Form, forms_of}
use Rattle.tcel_image.specs.Machine.{Streams, trace}
use Rattle.tcel_image.specs.Spelling.{InRange}
use Rattle.tcel_image.specs.Validity.{IsValid}
use Rattle.tcel_image.specs.declared.image.Image.{Image}
use Rattle.tcel_tool.specs.SetChoice.{Choice, IsBest}

-- the image of a choice: the last tasks are sliced into their parts, the others are whole
abbrev pub image_for : Choice → Image
image_for c = layout (forms_of c.sliced c.set c.parts) c.costs

-- it keeps its promise: its tasks are those of the set, it has a spelling and is valid, and over any streams of the inputs and for any number of ticks, its trace meets the set, by the
-- plans of the choice
pub record KeepsItsPromise (c : Choice) : Type 0 where
  pub tasks : map (λ (form : Form). form.task) (forms_of c.sliced c.set c.parts) ≡ c.set
  pub spelled : InRange (image_for c)
  pub valid : IsValid (image_for c)
  pub runs : (streams : Streams) (ticks : ℕ) → AllZip HasStreams c.set streams → Meets c.set c.plans streams ticks (trace (image_for c) streams ticks)

-- the image of every choice does so
abbrev pub CompiledProgramsMeetTheirSource : Type 0
CompiledProgramsMeetTheirSource = (c : Choice) → IsBest c → KeepsItsPromise c
