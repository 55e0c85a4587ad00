-- What linked tasks mean: in a frame, each receive from an input to which a link leads has one value, the last that the link's
-- producer sent in its frames whose deadline had come when the frame was released.
use Rattle.std.specs.Prelude.{ℕ, zero, suc, ◌+◌, ◌*◌, ◌==◌, nat_le, Bool, true, false, not, ◌&&◌, if◌then◌else◌, ℤ, pos, List, [], ◌∷◌, ◌++◌, length, map, filter, find, replicate, Option, option_map, unwrap_or, slice_index_or}
use Rattle.tcel_core.specs.declared.event.Event.{Event}
use Rattle.tcel_core.specs.declared.event.EventKind.{EventKind}
use Rattle.tcel_core.specs.declared.event.EventKind.TheVariants.{Receive, Send}
use Rattle.tcel_core.specs.Frames.{Frame, restart, shown, start_of}
use Rattle.tcel_core.specs.Language.{Task}
use Rattle.tcel_core.specs.Meaning.{exec}
use Rattle.tcel_core.specs.Outcome.{Memory}
use Rattle.tcel_link.specs.declared.link.Link.{Link}
use Rattle.tcel_link.specs.Links.{feeds, task_at}
use Rattle.tcel_link.specs.Receives.{receives}
use Rattle.tcel_script.specs.Script.{Streams}

-- ---- frames and what they show

-- a frame that ran: what it shows, and with what the next one starts
pub record Ran : Type 0 where
  pub frame : Frame
  pub next : Memory

-- the frame of a task that starts with this memory
abbrev pub ran : Task → Memory → Ran
ran task start =
    let outcome = exec task.body task.vars start in
    record { frame = shown task.deadline task.vars outcome; next = restart task.vars outcome.memory }

-- with what the frame behind these frames of a task starts, of which the last one stands first
abbrev pub resumed : Task → List (List ℤ) → List Ran → Memory
resumed task streams [] = start_of task streams 0
resumed task streams (last ∷ earlier) = last.next

abbrev pub is_send : EventKind → Bool
is_send Send = true
is_send Receive = false

-- the values that events send to an output, and those that they receive from an input, in order
abbrev pub sent : ℕ → List Event → List ℤ
sent output events = map (λ (e : Event). e.value) (filter (λ (e : Event). is_send e.kind && e.port == output) events)

abbrev pub received : ℕ → List Event → List ℤ
received input events = map (λ (e : Event). e.value) (filter (λ (e : Event). not (is_send e.kind) && e.port == input) events)

-- ---- what a link carries

-- the values that a task sent to an output in the frames whose deadline has come at a time, in order of frames and of events. Frame q
-- is released at q periods; of these frames the last one stands first, so as many stand behind it
abbrev pub sent_by : Task → ℕ → ℕ → List Ran → List ℤ
sent_by task output time [] = []
sent_by task output time (last ∷ earlier) =
    sent_by task output time earlier ++ (if nat_le (length earlier * task.period + task.deadline) time then sent output last.frame.events else [])

-- the last of values, or another where there is none
abbrev pub last_or : ℤ → List ℤ → ℤ
last_or other [] = other
last_or other (x ∷ xs) = last_or x xs

-- the frames of each task so far, by the task's number, the last one first
abbrev pub Past : Type 0
Past = ℕ → List Ran

-- the sample of a link at a time: the last of the values sent, or 0
abbrev pub sample : List Task → Past → ℕ → Link → ℤ
sample tasks past time link = last_or (pos 0) (sent_by (task_at tasks link.from) link.output time (past link.from))

-- ---- frames of linked tasks

-- the streams with some replaced by others, where the first of them has this number
abbrev pub replaced : (ℕ → Option (List ℤ)) → ℕ → List (List ℤ) → List (List ℤ)
replaced others number [] = []
replaced others number (stream ∷ streams) = unwrap_or (others number) stream ∷ replaced others (number + 1) streams

-- what an input has in a frame that is released at a time, where a link leads to it: the sample, as often as it can be received.
-- No receive from it stands in a loop, so each is run once at most
abbrev pub samples : List Task → List Link → Past → ℕ → ℕ → ℕ → Option (List ℤ)
samples tasks links past time number input =
    option_map (λ link. replicate (receives (task_at tasks number).body input) (sample tasks past time link)) (find (feeds number input) links)

-- with what the frame of a task starts that is released at a time
abbrev pub frame_start : List Task → List Link → Streams → Past → ℕ → ℕ → Memory
frame_start tasks links streams past time number =
    let start = resumed (task_at tasks number) (slice_index_or streams number []) (past number) in
    record { cells = start.cells; inputs = replaced (samples tasks links past time number) 0 start.inputs }

-- the frames of a task that are released before a time, the last one first: frame f is released at f periods
abbrev pub frames_before : List Task → List Link → Streams → ℕ → ℕ → List Ran
frames_before tasks links streams zero number = []
frames_before tasks links streams (suc time) number =
    let past = frames_before tasks links streams time in
    let task = task_at tasks number in
    if time == length (past number) * task.period then ran task (frame_start tasks links streams past time number) ∷ past number else past number

-- frame f of a task: what the frame shows that is released at f periods
abbrev pub linked_frame : List Task → List Link → Streams → ℕ → ℕ → Frame
linked_frame tasks links streams number f =
    let task = task_at tasks number in
    let time = f * task.period in
    (ran task (frame_start tasks links streams (frames_before tasks links streams time) time number)).frame

-- ---- the derived script

-- the values of the receives from an input in these frames, in order
abbrev pub received_in : ℕ → List Ran → List ℤ
received_in input [] = []
received_in input (last ∷ earlier) = received_in input earlier ++ received input last.frame.events

-- what an input receives in all frames that are released before a time, where a link leads to it
abbrev pub derived_stream : List Task → List Link → Streams → ℕ → ℕ → ℕ → Option (List ℤ)
derived_stream tasks links streams time number input =
    option_map (λ (link : Link). received_in input (frames_before tasks links streams time number)) (find (feeds number input) links)

-- the streams of these tasks, of which the first has this number, with some replaced by others
abbrev pub all_replaced : (ℕ → ℕ → Option (List ℤ)) → ℕ → Streams → Streams
all_replaced others number [] = []
all_replaced others number (streams ∷ more) = replaced (others number) 0 streams ∷ all_replaced others (number + 1) more

-- the script in which each input to which a link leads has what it receives before a time, and each other input what it had
abbrev pub derived : List Task → List Link → Streams → ℕ → Streams
derived tasks links streams time = all_replaced (derived_stream tasks links streams time) 0 streams
