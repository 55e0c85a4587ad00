-- What holds of a task between two ticks, and which task is ready.
use Rattle.std.specs.Prelude.{◌≡◌, ℕ, ◌+◌, ◌*◌, ◌<◌, ◌≤◌, Bool, true, false, List, length, slice_get, slice_index, Option, Some, None}
use Rattle.std.specs.Option.{option_map_or}
use Rattle.tcel_image.specs.declared.image.ImageTask.{ImageTask}
use Rattle.tcel_image.specs.declared.image.Line.{Line}
use Rattle.tcel_image.specs.Machine.{Running, is_ready}
use Rattle.tcel_image.specs.Spelling.{state_words, TaskInRange}
use Rattle.tcel_image.specs.Validity.{line_has}
use Rattle.tcel_image.specs.declared.flaw.FlawKind.{FlawKind}
use Rattle.tcel_machine.specs.declared.task.Task.{Task}
use Rattle.tcel_machine.specs.Task.{running_of}

-- a task of a valid image: its period, and its lines without flaws
pub record IsTaskValid (task : ImageTask) : Type 0 where
  pub some : 0 < task.period
  pub most : task.period ≤ 1000000000
  pub lines : (place : ℕ) (line : Line) → slice_get task.code place ≡ Some line → (kind : FlawKind) → line_has task kind place line ≡ false

-- the task stands at a line, its stack as deep as is written there and at most 128 words deep, and has its cells and inputs
pub record HasShape (task : ImageTask) (running : Running) : Type 0 where
  pub place : running.place < length task.code
  pub depth : (line : Line) → slice_get task.code running.place ≡ Some line → length running.stack ≡ line.depth
  pub low : length running.stack ≤ 128
  pub cells : length running.cells ≡ task.cells
  pub taken : length running.taken ≡ length task.inputs

-- no count of the task is above what the ticks so far allow
pub record HasCounts (task : ImageTask) (now : ℕ) (running : Running) : Type 0 where
  pub spent : running.spent ≤ now
  pub reach : running.ended * task.period ≤ now + task.period
  pub given : (port : ℕ) → slice_index running.taken port ≤ now

pub record IsRunning (task : ImageTask) (now : ℕ) (run : Task) : Type 0 where
  pub words : run.words ≡ state_words task.states
  pub fits : run.words ≤ length run.cells.items
  pub shape : HasShape task (running_of run)
  pub counts : HasCounts task now (running_of run)

-- each task of the list runs a task of the image
pub record AllRun (tasks : List ImageTask) (now : ℕ) (runs : List Task) : Type 0 where
  pub count : length runs ≡ length tasks
  pub each : (number : ℕ) (task : ImageTask) (run : Task) → slice_get tasks number ≡ Some task → slice_get runs number ≡ Some run → IsRunning task now run

-- the task of this number is ready
abbrev pub ready_at : List ImageTask → ℕ → List Running → ℕ → Bool
ready_at tasks now runs number =
    option_map_or (λ task. option_map_or (λ running. is_ready task now running) (slice_get runs number) false) (slice_get tasks number) false

-- the first task that is ready, if one is
abbrev pub IsFirstReady : List ImageTask → ℕ → List Running → Option ℕ → Type 0
IsFirstReady tasks now runs None = (number : ℕ) → ready_at tasks now runs number ≡ false
IsFirstReady tasks now runs (Some number) = (ready_at tasks now runs number ≡ true) × ((other : ℕ) → other < number → ready_at tasks now runs other ≡ false)

-- each task is in range, and valid
abbrev pub AreSound : List ImageTask → Type 0
AreSound tasks = (number : ℕ) (task : ImageTask) → slice_get tasks number ≡ Some task → TaskInRange task × IsTaskValid task
