-- Room for the lines of an image.
use Rattle.std.specs.Prelude.{ℕ, ◌+◌, ◌*◌, ◌<◌, ◌≤◌, ◌^◌, min, length, All, FitsSigned}
use Rattle.std.specs.Int.{w64}
use Rattle.tcel_num.specs.Entry.{Entry, What, receive, send, first, end}
use Rattle.tcel_image.specs.declared.image.Image.{Image}
use Rattle.tcel_image.specs.declared.image.ImageTask.{ImageTask}
use Rattle.tcel_image.specs.TraceText.{line}

-- the values that are shown are of 64 bits
abbrev pub WhatFits : What → Type 0
WhatFits (receive port value) = FitsSigned w64 value
WhatFits (send port value) = FitsSigned w64 value
WhatFits first = Unit {0}
WhatFits (end state) = All (FitsSigned w64) state

-- an entry whose numbers are of 64 bits
pub record EntryFits (entry : Entry) : Type 0 where
  pub time : entry.time < 2 ^ 64
  pub frame : entry.frame < 2 ^ 64
  pub what : WhatFits entry.what

-- no line of a task in range is longer: 20 bytes for each number, 32 for each name
abbrev pub line_bound : ImageTask → ℕ
line_bound task = 137 + 54 * length task.states + 21 * min task.cells 4096

-- so many bytes are room for the longest line of the image
abbrev pub HasRoom : ℕ → Image → Type 0
HasRoom room image = All (λ task. line_bound task ≤ room) image.tasks

-- the line of every entry has at most so many bytes
abbrev pub HoldsLines : ℕ → Image → Type 0
HoldsLines room image = (entry : Entry) → EntryFits entry → length (line image entry) ≤ room
