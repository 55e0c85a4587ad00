-- What a run of statements leaves: the words and inputs of its task, and the events that it made.
use Rattle.std.specs.Prelude.{ℕ, zero, suc, ℤ, Bool, true, false, List, [], ◌∷◌, ◌++◌, if◌then◌else◌}
use Rattle.tcel_core.specs.declared.event.EventKind.{EventKind}
use Rattle.tcel_core.specs.Language.{Window}

-- what a task has while it runs: the words of its variables, and the values that each input has left
pub record Memory : Type 0 where
  pub cells : List ℤ
  pub inputs : List (List ℤ)

-- a `do` block around an event: its number, its window, and whether the event is its first one
pub record EnclosingBlock : Type 0 where
  pub number : ℕ
  pub window : Window
  pub leads : Bool

-- an event: a value that came from an input or went to an output, and the blocks around it, the outermost first
pub record Occurrence : Type 0 where
  pub kind : EventKind
  pub port : ℕ
  pub value : ℤ
  pub around : List EnclosingBlock

-- what a run leaves, and the events that it made
pub record Outcome : Type 0 where
  pub memory : Memory
  pub events : List Occurrence

-- a run without an event
abbrev pub quiet : Memory → Outcome
quiet m = record { memory = m; events = [] }

-- a run after these events
abbrev pub after : List Occurrence → Outcome → Outcome
after events r = record { memory = r.memory; events = events ++ r.events }

-- one run, and then another from what it left
abbrev pub then_run : Outcome → (Memory → Outcome) → Outcome
then_run r more = after r.events (more r.memory)

-- rounds 0 to n - 1
abbrev pub rounds : ℕ → (ℕ → Memory → Outcome) → Memory → Outcome
rounds zero round m = quiet m
rounds (suc n) round m = then_run (rounds n round m) (round n)

-- rounds while the test holds, at most n
abbrev pub rounds_while : ℕ → (Memory → Bool) → (Memory → Outcome) → Memory → Outcome
rounds_while zero test round m = quiet m
rounds_while (suc n) test round m = (if test m then (λ k. then_run (round k) (rounds_while n test round)) else quiet) m

-- an event with no block around it
abbrev pub event : EventKind → ℕ → ℤ → Occurrence
event kind port value = record { kind = kind; port = port; value = value; around = [] }

-- the events of a block, whose first event leads it
abbrev pub enclosed : ℕ → Window → Bool → List Occurrence → List Occurrence
enclosed n window leads [] = []
enclosed n window leads (e ∷ es) =
    record {
      kind = e.kind;
      port = e.port;
      value = e.value;
      around = record { number = n; window = window; leads = leads } ∷ e.around;
    }
    ∷ enclosed n window false es

-- a run inside a `do` block
abbrev pub inside : ℕ → Window → Outcome → Outcome
inside n window r = record { memory = r.memory; events = enclosed n window true r.events }
