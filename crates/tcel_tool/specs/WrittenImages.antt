-- What `run` makes of an image that `compile` wrote.
use Rattle.std.specs.Prelude.{◌≡◌, ℕ, List, Ok}
use Rattle.tcel_core.specs.Meets.{Meets}
use Rattle.tcel_image.specs.Machine.{Streams, trace}
use Rattle.tcel_image.specs.Reading.{reading}
use Rattle.tcel_image.specs.Validity.{IsValid}
use Rattle.tcel_image.specs.declared.image.Image.{Image}
use Rattle.tcel_tool.specs.CompileCommand.{image_bytes}
use Rattle.tcel_tool.specs.Headline.{KeepsItsPromise, image_for}
use Rattle.tcel_tool.specs.RunCommand.{Runs}
use Rattle.tcel_tool.specs.SetChoice.{Choice}

-- `run` reads written bytes as the image that was written, and finds no flaw in it
abbrev pub WrittenImagesAreTaken : Type 0
WrittenImagesAreTaken = (c : Choice) → KeepsItsPromise c → (reading (image_bytes c) ≡ Ok (image_for c)) × IsValid (image_for c)

-- whatever script goes with written bytes, and for any number of ticks, the trace that `run` shows meets the set
abbrev pub RunsOfWrittenImagesMeet : Type 0
RunsOfWrittenImagesMeet =
    (c : Choice) → KeepsItsPromise c → (script : List ℕ) (given : Image) (streams : Streams) (ticks : ℕ) → Runs (image_bytes c) script given streams
    → Meets c.set c.plans streams ticks (trace given streams ticks)
