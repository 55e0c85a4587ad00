-- What runs of linked tasks show.
use Rattle.std.specs.Prelude.{ℕ, List}
use Rattle.tcel_image.specs.Machine.{Streams, trace}
use Rattle.tcel_link.specs.declared.link.Link.{Link}
use Rattle.tcel_link.specs.Linked.{derived}
use Rattle.tcel_link.specs.Traces.{MeetsLinked, ReceivesAreExplained}
use Rattle.tcel_num.specs.Entry.{Entry}
use Rattle.tcel_tool.specs.Headline.{image_for}
use Rattle.tcel_tool.specs.LinkedCommand.{Reads}
use Rattle.tcel_tool.specs.SetChoice.{Choice}
use Rattle.tcel_tool.specs.Stage.{Call}

-- the trace whose lines `linked` writes
abbrev pub linked_trace : Choice → List Link → Streams → ℕ → List Entry
linked_trace c links streams ticks = trace (image_for c) (derived c.set links streams ticks) ticks

-- it meets the linked meaning of the set, by the plans of the choice, and its own sends explain what its linked inputs receive
pub record KeepsLinks (c : Choice) (links : List Link) (streams : Streams) (ticks : ℕ) : Type 0 where
  pub meets : MeetsLinked c.set links c.plans streams ticks (linked_trace c links streams ticks)
  pub explained : ReceivesAreExplained c.set links streams (linked_trace c links streams ticks)

-- so do all traces that `linked` writes
abbrev pub LinkedRunsMeetTheirSource : Type 0
LinkedRunsMeetTheirSource = (call : Call) (c : Choice) (links : List Link) (streams : Streams) (ticks : ℕ) → Reads call c links streams → KeepsLinks c links streams ticks
