-- What is known of the task that is ready first, and when it stays known.
use Rattle.std.specs.Prelude.{◌≡◌, ℕ, ◌<◌, ◌≤◌, Bool, true, false, List, map, Option, Some, None}
use Rattle.tcel_image.specs.declared.image.ImageTask.{ImageTask}
use Rattle.tcel_image.specs.Machine.{Running}
use Rattle.tcel_machine.specs.declared.entry.Entry.{Entry}
use Rattle.tcel_machine.specs.declared.entry.What.{What}
use Rattle.tcel_machine.specs.declared.entry.What.TheVariants as shown
use Rattle.tcel_machine.specs.declared.task.Task.{Task}
use Rattle.tcel_machine.specs.declared.turn.Turn.{Turn}
use Rattle.tcel_machine.specs.Runs.{IsFirstReady, ready_at}
use Rattle.tcel_machine.specs.Task.{running_of}

-- at each tick from now on and before the turn's end, its task is the first that is ready of these, or none is
pub record IsTurn (tasks : List ImageTask) (now : ℕ) (runs : List Running) (turn : Turn) : Type 0 where
  pub first : (time : ℕ) → now ≤ time → time < turn.until → IsFirstReady tasks time runs turn.first

-- these tasks are ready at the same times as those
pub record AreReadyAlike (tasks : List ImageTask) (old new : List Task) : Type 0 where
  pub same : (time number : ℕ) → ready_at tasks time (map running_of new) number ≡ ready_at tasks time (map running_of old) number

-- whether it shows the end of a frame
abbrev pub is_end : What → Bool
is_end (shown.Receive port value) = false
is_end (shown.Send port value) = false
is_end shown.First = false
is_end shown.End = true

abbrev pub is_end_entry : Option Entry → Bool
is_end_entry None = false
is_end_entry (Some entry) = is_end entry.what
