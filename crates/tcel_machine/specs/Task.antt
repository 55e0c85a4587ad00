-- A task of the machine as the definition's running task, and what an instruction needs of it.
use Rattle.std.specs.Prelude.{◌≡◌, ℕ, ◌+◌, ◌<◌, ◌≤◌, ◌^◌, ℤ, List, [], length, take, slice_index, slice_index_or, slice_set, Option, option_map, if◌then◌else◌}
use Rattle.tcel_num.specs.Arithmetic.{is_unary}
use Rattle.tcel_num.specs.Entry.{What}
use Rattle.tcel_image.specs.declared.image.Instr.{Instr}
use Rattle.tcel_image.specs.declared.image.Instr.TheVariants.{Const, Get, Put, GetAt, PutAt, Arith, Jump, Branch, Loop, Receive, Send, Hold, Copy, Mark, End}
use Rattle.tcel_image.specs.Machine.{Running, Outcome, effect}
use Rattle.tcel_machine.specs.declared.entry.What as declared
use Rattle.tcel_machine.specs.Seen.{seen}
use Rattle.tcel_machine.specs.declared.task.Task.{Task}

-- the task as the definition has it
abbrev pub running_of : Task → Running
running_of task =
    record {
      cells = task.cells.items;
      stack = task.stack;
      place = task.place;
      dispatched = task.dispatched;
      spent = task.spent;
      ended = task.ended;
      taken = task.taken.items;
    }

-- the task has become this one
pub record Becomes (old new : Task) (after : Running) : Type 0 where
  pub task : running_of new ≡ after
  pub words : new.words ≡ old.words

-- the task has done what this instruction does at its end, which asks for no input
abbrev pub Does : Task → Task → Instr → Type 0
Does old new instr = Becomes old new (effect old.words [] instr (running_of old)).task

-- what an instruction does at its end in the task of this number, over a script's streams
abbrev pub effect_in : Task → List (List (List ℤ)) → ℕ → Instr → Outcome
effect_in task script number instr = effect task.words (slice_index_or script number []) instr (running_of task)

-- on to the next instruction, with this value of an input in a cell
abbrev pub received : ℕ → ℕ → ℤ → Running → Running
received port cell value task =
    record task {
      cells = slice_set task.cells cell value;
      place = task.place + 1;
      spent = 0;
      taken = slice_set task.taken port (slice_index task.taken port + 1);
    }

-- the stack holds so many words, and never more than 128
abbrev pub Holds : ℕ → Running → Type 0
Holds n task = (n ≤ length task.stack) × (length task.stack ≤ 128)

abbrev pub HasCells : ℕ → ℕ → Running → Type 0
HasCells from size task = from + size ≤ length task.cells

-- the instruction finds the words and cells that it names
abbrev pub CanRun : Instr → Running → Type 0
CanRun (Const value) task = length task.stack < 128
CanRun (Get cell) task = (length task.stack < 128) × HasCells cell 1 task
CanRun (Put cell) task = Holds 1 task × HasCells cell 1 task
CanRun (GetAt from size) task = Holds 1 task × HasCells from size task
CanRun (PutAt from size) task = Holds 2 task × HasCells from size task
CanRun (Arith op) task = Holds (if is_unary op then 1 else 2) task
CanRun (Jump target) task = Unit {0}
CanRun (Branch target) task = Holds 1 task
CanRun (Loop cell turns target) task = HasCells cell 1 task
CanRun (Receive port cell) task = HasCells cell 1 task × (port < length task.taken) × (slice_index task.taken port < 2 ^ 63)
CanRun (Send port) task = Holds 1 task
CanRun (Hold bound) task = Unit {0}
CanRun (Copy from to size) task = HasCells from size task × HasCells to size task
CanRun Mark task = Unit {0}
CanRun End task = Unit {0}

-- the words of a task's states
abbrev pub state_of : Task → List ℤ
state_of task = take task.words task.cells.items

-- what the task shows is the definition's
abbrev pub Shows : Option declared.What → Task → Option What → Type 0
Shows found task shown = option_map (seen (state_of task)) found ≡ shown
