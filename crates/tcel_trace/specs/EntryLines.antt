-- The lines of the entries of an image's tasks.
use Rattle.std.specs.Prelude.{◌≡◌, ℕ, ◌<◌, ◌^◌, [], length, All, FitsSigned, slice_index_or, false}
use Rattle.std.specs.Int.{w64}
use Rattle.tcel_num.specs.Entry.{Entry, What, receive, send, first, end}
use Rattle.tcel_image.specs.declared.image.Image.{Image}
use Rattle.tcel_image.specs.declared.image.ImageTask.{ImageTask}
use Rattle.tcel_image.specs.Spelling.{state_words}
use Rattle.tcel_image.specs.TraceText.{states_text}
use Rattle.tcel_trace.specs.declared.trace_line.TraceLine.{TraceLine}
use Rattle.tcel_trace.specs.declared.trace_line.LineWhat.{LineWhat}
use Rattle.tcel_trace.specs.declared.trace_line.LineWhat.TheVariants as lines

abbrev pub what_shown : ImageTask → What → LineWhat
what_shown task (receive port value) = lines.Receive (slice_index_or task.inputs port []) value
what_shown task (send port value) = lines.Send (slice_index_or task.outputs port []) value
what_shown task first = lines.First
what_shown task (end state) = lines.End (states_text task.states state)

-- the line of an entry of the task
abbrev pub line_shown : ImageTask → Entry → TraceLine
line_shown task entry = record { time = entry.time; task = task.name; frame = entry.frame; what = what_shown task entry.what }

-- stands for a task that an image has not
abbrev pub no_task : ImageTask
no_task = record { name = []; period = 0; sliced = false; inputs = []; outputs = []; states = []; cells = 0; code = [] }

abbrev pub task_at : Image → ℕ → ImageTask
task_at image place = slice_index_or image.tasks place no_task

-- the task has the port, numbers are of 64 bits, and the state has a number for each word
abbrev pub WhatIsOf : ImageTask → What → Type 0
WhatIsOf task (receive port value) = (port < length task.inputs) × FitsSigned w64 value
WhatIsOf task (send port value) = (port < length task.outputs) × FitsSigned w64 value
WhatIsOf task first = Unit {0}
WhatIsOf task (end state) = All (FitsSigned w64) state × (length state ≡ state_words task.states)

-- an entry that a run of the image can show
pub record IsOf (image : Image) (entry : Entry) : Type 0 where
  pub time : entry.time < 2 ^ 64
  pub task : entry.task < length image.tasks
  pub frame : entry.frame < 2 ^ 64
  pub what : WhatIsOf (task_at image entry.task) entry.what
