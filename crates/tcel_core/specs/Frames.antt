-- The frames of a task, one after another for ever.
use Rattle.std.specs.Prelude.{ℕ, zero, suc, ◌+◌, ◌-◌, ℤ, pos, List, [], ◌∷◌, ◌++◌, take, replicate, map, Bool, true, false, if◌then◌else◌}
use Rattle.tcel_core.specs.declared.event.Event.{Event}
use Rattle.tcel_core.specs.declared.var.Keep.{Keep}
use Rattle.tcel_core.specs.declared.var.Var.{Var}
use Rattle.tcel_core.specs.declared.var.VarKind.{VarKind}
use Rattle.tcel_core.specs.Cells.{all_words, words_of}
use Rattle.tcel_core.specs.Language.{Task}
use Rattle.tcel_core.specs.Meaning.{exec}
use Rattle.tcel_core.specs.Outcome.{Memory, Outcome}
use Rattle.tcel_core.specs.Windows.{event_of}

-- whether a variable is kept from frame to frame
abbrev pub is_state : Keep → Bool
is_state Keep.State = true
is_state Keep.Local = false
is_state Keep.Temp = false

-- the words that a state variable has before the first frame
abbrev pub first_words : VarKind → ℤ → List ℤ
first_words VarKind.Int first = first ∷ []
first_words VarKind.Bool first = first ∷ []
first_words (VarKind.Array n) first = replicate n (pos 0)

-- the declared values of the state variables
abbrev pub declared_state : List Var → List ℤ
declared_state [] = []
declared_state (v ∷ vs) = (if is_state v.keep then first_words v.kind v.first else []) ++ declared_state vs

-- how many words the state variables have
abbrev pub state_words : List Var → ℕ
state_words [] = 0
state_words (v ∷ vs) = (if is_state v.keep then words_of v.kind else 0) + state_words vs

-- the words of the state variables, which stand first
abbrev pub state_of : List Var → List ℤ → List ℤ
state_of vars cells = take (state_words vars) cells

-- the words with which a frame starts: the state, and 0 for all others
abbrev pub start_cells : List Var → List ℤ → List ℤ
start_cells vars state = state ++ replicate (all_words vars - state_words vars) (pos 0)

-- with what a frame starts, after a frame that left this
abbrev pub restart : List Var → Memory → Memory
restart vars m = record { cells = start_cells vars (state_of vars m.cells); inputs = m.inputs }

-- with what frame f starts: the declared values and these streams at first, and then the state and the inputs that frame f - 1 left
abbrev pub start_of : Task → List (List ℤ) → ℕ → Memory
start_of task streams zero = record { cells = start_cells task.vars (declared_state task.vars); inputs = streams }
start_of task streams (suc f) = restart task.vars (exec task.body task.vars (start_of task streams f)).memory

-- what a frame shows: its events with their windows, and the state after it
pub record Frame : Type 0 where
  pub events : List Event
  pub state : List ℤ

-- what a run of a body shows, in a frame with this deadline
abbrev pub shown : ℕ → List Var → Outcome → Frame
shown deadline vars r = record { events = map (event_of deadline) r.events; state = state_of vars r.memory.cells }

-- frame f of a task over these streams, one for each input
abbrev pub frame_of : Task → List (List ℤ) → ℕ → Frame
frame_of task streams f = shown task.deadline task.vars (exec task.body task.vars (start_of task streams f))
