-- The text of `mean`: what the tasks of a set do, frame by frame.
use Rattle.std.specs.Prelude.{ℕ, zero, suc, ◌+◌, ℤ, List, [], ◌∷◌, ◌++◌, slice_index_or, codes}
use Rattle.std.specs.Fmt.{decimal}
use Rattle.std.specs.List.{flat_map}
use Rattle.tcel_code.specs.Layout.{states_of}
use Rattle.tcel_core.specs.declared.event.Event.{Event}
use Rattle.tcel_core.specs.declared.event.EventKind.{EventKind}
use Rattle.tcel_core.specs.declared.event.EventKind.TheVariants.{Receive, Send}
use Rattle.tcel_core.specs.Frames.{Frame, frame_of}
use Rattle.tcel_core.specs.Language.{Task}
use Rattle.tcel_image.specs.TraceText.{port_text, states_text}
use Rattle.tcel_script.specs.Script.{Streams}

-- the task and the frame, which begin each line
abbrev pub head_text : List ℕ → ℕ → List ℕ
head_text task frame = task ++ (codes " " ++ (decimal frame ++ codes " "))

-- whether a value was received or sent, with its port
abbrev pub value_text : Task → EventKind → ℕ → ℤ → List ℕ
value_text task Receive port value = codes "receive " ++ port_text task.inputs port value
value_text task Send port value = codes "send " ++ port_text task.outputs port value

-- the earliest and the latest time after the frame's release
abbrev pub window_text : Event → List ℕ
window_text e = codes " " ++ (decimal e.earliest ++ (codes " " ++ (decimal e.latest ++ codes "\n")))

abbrev pub event_line : Task → ℕ → Event → List ℕ
event_line task frame e = head_text task.name frame ++ (value_text task e.kind e.port e.value ++ window_text e)

-- the end of a frame, with the state after it
abbrev pub end_line : Task → ℕ → List ℤ → List ℕ
end_line task frame state = head_text task.name frame ++ (codes "end" ++ (states_text (states_of task.vars) state ++ codes "\n"))

abbrev pub frame_text : Task → ℕ → Frame → List ℕ
frame_text task f shown = flat_map (event_line task f) shown.events ++ end_line task f shown.state

-- frames 0 to n - 1 of a task, over the streams of its inputs
abbrev pub task_text : Task → List (List ℤ) → ℕ → List ℕ
task_text task streams zero = []
task_text task streams (suc n) = task_text task streams n ++ frame_text task n (frame_of task streams n)

-- these tasks, of which the first has this number, each over its own streams
abbrev pub tasks_text : ℕ → ℕ → List Task → Streams → List ℕ
tasks_text frames i [] streams = []
tasks_text frames i (task ∷ tasks) streams = task_text task (slice_index_or streams i []) frames ++ tasks_text frames (i + 1) tasks streams

-- the text of so many frames: one piece, and none for no frames
abbrev pub pieces_of : ℕ → List ℕ → List (List ℕ)
pieces_of zero text = []
pieces_of (suc n) text = text ∷ []

-- the tasks of a set, in falling priority
abbrev pub mean_pieces : ℕ → List Task → Streams → List (List ℕ)
mean_pieces frames set streams = pieces_of frames (tasks_text frames 0 set streams)
