-- What a trace of linked tasks shows: when it meets their meaning, and when its own sends explain what its linked inputs receive.
use Rattle.std.specs.Prelude.{◌≡◌, ℕ, ◌*◌, ◌+◌, ◌<◌, ◌≤◌, ◌==◌, nat_le, Bool, false, ◌&&◌, ℤ, pos, List, [], ◌∷◌, ◌++◌, length, map, filter, find, Some}
use Rattle.std.specs.List.{range_with_len}
use Rattle.tcel_core.specs.Language.{Task}
use Rattle.tcel_core.specs.Meets.{Shows}
use Rattle.tcel_core.specs.Promises.{Behavior}
use Rattle.tcel_link.specs.declared.link.Link.{Link}
use Rattle.tcel_link.specs.Linked.{frames_before, last_or, linked_frame, sent_by}
use Rattle.tcel_link.specs.Links.{feeds, task_at}
use Rattle.tcel_num.specs.Entry.{Entry, What, receive, send}
use Rattle.tcel_num.specs.Plan.{Plan}
use Rattle.tcel_script.specs.Script.{Streams}

-- ---- meeting the linked meaning

-- what the task of a number is to do where tasks are linked
abbrev pub linked_behavior : List Task → List Link → Streams → ℕ → Behavior
linked_behavior tasks links streams number =
    let task = task_at tasks number in
    record { period = task.period; deadline = task.deadline; frames = linked_frame tasks links streams number }

abbrev pub linked_behaviors : List Task → List Link → Streams → List Behavior
linked_behaviors tasks links streams = map (linked_behavior tasks links streams) (range_with_len 0 (length tasks))

-- a trace of so many ticks meets the linked tasks: they do in order what their linked frames say, each event inside its window
abbrev pub MeetsLinked : List Task → List Link → List Plan → Streams → ℕ → List Entry → Type 0
MeetsLinked tasks links plans streams ticks shown = Shows (linked_behaviors tasks links streams) plans ticks shown

-- ---- the sends of a trace

-- whether an entry sends to this output, and the value that it sends
abbrev pub sends_to : ℕ → What → Bool
sends_to output (send port value) = port == output
sends_to output _ = false

abbrev pub value_of : What → ℤ
value_of (send port value) = value
value_of _ = pos 0

-- whether an entry is a send to a link's output, in a frame of its producer whose deadline has come at a time
abbrev pub is_carried : List Task → Link → ℕ → Entry → Bool
is_carried tasks link time e =
    let producer = task_at tasks link.from in
    e.task == link.from && (sends_to link.output e.what && nat_le (e.frame * producer.period + producer.deadline) time)

-- the values of these sends, in the order of a trace
abbrev pub carried_by : List Task → Link → ℕ → List Entry → List ℤ
carried_by tasks link time entries = map (λ (e : Entry). value_of e.what) (filter (is_carried tasks link time) entries)

-- ---- receives

-- a value that was received over a link in a frame released at a time is explained by the trace, of which this is the rest from the receive on
pub record IsExplained (tasks : List Task) (links : List Link) (streams : Streams) (shown rest : List Entry) (link : Link) (time : ℕ) (value : ℤ) : Type 0 where
  -- it is the last that the trace shows as sent in the producer's frames whose deadline had come at the release, or 0
  pub last : value ≡ last_or (pos 0) (carried_by tasks link time shown)
  -- each of these sends stands in front of the receive
  pub earlier : carried_by tasks link time rest ≡ []
  -- and they are all that these frames send by the linked meaning
  pub whole : carried_by tasks link time shown ≡ sent_by (task_at tasks link.from) link.output time (frames_before tasks links streams time link.from)

-- so is each receive from an input to which a link leads
abbrev pub ReceivesAreExplained : List Task → List Link → Streams → List Entry → Type 0
ReceivesAreExplained tasks links streams shown =
    (before after : List Entry) (e : Entry) (input : ℕ) (value : ℤ) (link : Link) → shown ≡ before ++ e ∷ after → e.what ≡ receive input value →
    find (feeds e.task input) links ≡ Some link →
    IsExplained tasks links streams shown (e ∷ after) link (e.frame * (task_at tasks e.task).period) value

-- ---- traces

-- an entry of a trace of so many ticks stands behind its frame's release
pub record IsReleased (tasks : List Task) (ticks : ℕ) (e : Entry) : Type 0 where
  pub released : e.frame * (task_at tasks e.task).period < e.time
  pub within : e.time ≤ ticks
