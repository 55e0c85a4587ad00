-- The tick machine: any number of tasks under preemptive fixed priorities. A tick is one of a frame's start, or one cycle of one instruction.
use Rattle.std.specs.Prelude.{ℕ, zero, suc, ◌+◌, ◌-◌, ◌*◌, ◌/◌, ℤ, pos, ◌+ℤ◌, Bool, nat_lt, nat_le, int_lt, if◌then◌else◌, List, [], ◌∷◌, ◌++◌, length, map, take, replicate, slice_set, slice_get, slice_index, slice_index_or, Option, Some, None, option_to_list}
use Rattle.std.specs.List.{flat_map}
use Rattle.tcel_num.specs.declared.op.Op.{Op}
use Rattle.tcel_num.specs.Arithmetic.{is_unary, unary_value, binary_value, holds, wrapped}
use Rattle.tcel_num.specs.Entry.{Entry, What, receive, send, first, end}
use Rattle.tcel_target.specs.declared.costs.Costs.{Costs}
use Rattle.tcel_image.specs.declared.image.Image.{Image}
use Rattle.tcel_image.specs.declared.image.ImageTask.{ImageTask}
use Rattle.tcel_image.specs.declared.image.ImageState.{ImageState}
use Rattle.tcel_image.specs.declared.image.Instr.{Instr}
use Rattle.tcel_image.specs.declared.image.Instr.TheVariants.{Const, Get, Put, GetAt, PutAt, Arith, Jump, Branch, Loop, Receive, Send, Hold, Copy, Mark, End}
use Rattle.tcel_image.specs.declared.image.Line.{Line}
use Rattle.tcel_image.specs.Instructions.{cycles}
use Rattle.tcel_image.specs.Spelling.{state_words}
use Rattle.tcel_num.specs.Words.{element, with_element, copied}

-- the values of each input of each task
abbrev pub Streams : Type 0
Streams = List (List (List ℤ))

-- a task on the machine; the stack has its top first
pub record Running : Type 0 where
  pub cells : List ℤ
  pub stack : List ℤ
  -- where it is in its code
  pub place : ℕ
  -- the ticks that it has spent on the current frame's start
  pub dispatched : ℕ
  -- the cycles that it has spent on the current instruction
  pub spent : ℕ
  -- the frames that it has ended
  pub ended : ℕ
  -- how many values each input has given
  pub taken : List ℕ

pub record Machine : Type 0 where
  pub now : ℕ
  pub tasks : List Running

-- what an effect leaves, and what it shows
pub record Outcome : Type 0 where
  pub task : Running
  pub shown : Option What

-- the cells with the states' first values, and 0 elsewhere
abbrev pub first_cells : ImageTask → List ℤ
first_cells task =
    let states = flat_map (λ (s : ImageState). s.first) task.states in
    states ++ replicate (task.cells - length states) (pos 0)

abbrev pub start_task : ImageTask → Running
start_task task =
    record {
      cells = first_cells task;
      stack = [];
      place = 0;
      dispatched = 0;
      spent = 0;
      ended = 0;
      taken = map (λ _. 0) task.inputs;
    }

-- the machine before its first tick
abbrev pub start : Image → Machine
start image = record { now = 0; tasks = map start_task image.tasks }

-- silently on to a place, with this stack and these cells
abbrev pub move_to : ℕ → List ℤ → List ℤ → Running → Outcome
move_to place stack cells task =
    record {
      task = record task { cells = cells; stack = stack; place = place; spent = 0 };
      shown = None;
    }

-- silently on to the next instruction
abbrev pub go_on : List ℤ → List ℤ → Running → Outcome
go_on stack cells task = move_to (task.place + 1) stack cells task

-- on to the next instruction, showing this
abbrev pub show : What → List ℤ → List ℤ → List ℕ → Running → Outcome
show what stack cells taken task =
    record {
      task = record task { cells = cells; stack = stack; place = task.place + 1; spent = 0; taken = taken };
      shown = Some what;
    }

-- the value on the stack's top; on an empty stack, which no valid image meets, 0
abbrev pub top : List ℤ → ℤ
top [] = pos 0
top (value ∷ stack) = value

-- the stack below its top
abbrev pub below : List ℤ → List ℤ
below [] = []
below (value ∷ stack) = stack

-- the stack after an operator, which takes one operand or two by what it is
abbrev pub applied : Op → List ℤ → List ℤ
applied op stack =
    if is_unary op then unary_value op (top stack) ∷ below stack
    else binary_value op (top (below stack)) (top stack) ∷ below (below stack)

-- the next value of an input, or 0 where it has no more
abbrev pub next_input : List (List ℤ) → List ℕ → ℕ → ℤ
next_input inputs taken port = slice_index_or (slice_index_or inputs port []) (slice_index taken port) (pos 0)

-- what a loop's counter becomes
abbrev pub counted : List ℤ → ℕ → ℤ
counted cells cell = wrapped (slice_index_or cells cell (pos 0) +ℤ pos 1)

-- the next frame, from the code's start with the states' words and 0 elsewhere; the states are shown
abbrev pub end_frame : ℕ → Running → Outcome
end_frame words task =
    record {
      task =
          record task {
            cells = take words task.cells ++ replicate (length task.cells - words) (pos 0);
            place = 0;
            dispatched = 0;
            spent = 0;
            ended = task.ended + 1;
          };
      shown = Some (end (take words task.cells));
    }

-- what an instruction does at its end, in a task with so many state words and these inputs
abbrev pub effect : ℕ → List (List ℤ) → Instr → Running → Outcome
effect words inputs (Const value) task = go_on (value ∷ task.stack) task.cells task
effect words inputs (Get cell) task = go_on (slice_index_or task.cells cell (pos 0) ∷ task.stack) task.cells task
effect words inputs (Put cell) task = go_on (below task.stack) (slice_set task.cells cell (top task.stack)) task
effect words inputs (GetAt from length) task =
    go_on (element task.cells from length (top task.stack) ∷ below task.stack) task.cells task
effect words inputs (PutAt from length) task =
    go_on (below (below task.stack))
    (with_element task.cells from length (top (below task.stack)) (top task.stack))
    task
effect words inputs (Arith op) task = go_on (applied op task.stack) task.cells task
effect words inputs (Jump target) task = move_to target task.stack task.cells task
effect words inputs (Branch target) task =
    move_to (if holds (top task.stack) then task.place + 1 else target) (below task.stack) task.cells task
effect words inputs (Loop cell turns target) task =
    let count = counted task.cells cell in
    move_to (if int_lt count (pos turns) then target else task.place + 1) task.stack (slice_set task.cells cell count) task
effect words inputs (Receive port cell) task =
    let value = next_input inputs task.taken port in
    show (receive port value) task.stack (slice_set task.cells cell value)
    (slice_set task.taken port (slice_index task.taken port + 1))
    task
effect words inputs (Send port) task = show (send port (top task.stack)) (below task.stack) task.cells task.taken task
effect words inputs (Hold bound) task = go_on task.stack task.cells task
effect words inputs (Copy from to length) task = go_on task.stack (copied task.cells from to length) task
effect words inputs Mark task = show first task.stack task.cells task.taken task
effect words inputs End task = end_frame words task

-- whether the cycle from now on is the instruction's last, in a task of this period
abbrev pub is_last_cycle : Costs → ℕ → ℕ → Instr → Running → Bool
is_last_cycle costs period now (Hold bound) task = nat_le (task.ended * period + bound) (now + 1)
is_last_cycle costs period now instr task = nat_le (cycles costs instr) (task.spent + 1)

-- a cycle that is not the instruction's last
abbrev pub spend : Running → Outcome
spend task = record { task = record task { spent = task.spent + 1 }; shown = None }

-- a cycle of this instruction; outside the code, where no valid image leads, nothing is done
abbrev pub cycle_of : Costs → ImageTask → List (List ℤ) → ℕ → Option Line → Running → Outcome
cycle_of costs image_task inputs now None task = record { task = task; shown = None }
cycle_of costs image_task inputs now (Some line) task =
    if is_last_cycle costs image_task.period now line.instr task
    then effect (state_words image_task.states) inputs line.instr task
    else spend task

-- a cycle of the task's current instruction
abbrev pub cycle : Costs → ImageTask → List (List ℤ) → ℕ → Running → Outcome
cycle costs image_task inputs now task =
    cycle_of costs image_task inputs now (slice_get image_task.code task.place) task

-- a tick of the current frame's start
abbrev pub dispatch : Running → Outcome
dispatch task = record { task = record task { dispatched = task.dispatched + 1 }; shown = None }

-- a tick of the task: one of its frame's start until that is done, and then a cycle of its instruction
abbrev pub own_tick : Costs → ImageTask → List (List ℤ) → ℕ → Running → Outcome
own_tick costs image_task inputs now task =
    if nat_lt task.dispatched costs.dispatch then dispatch task else cycle costs image_task inputs now task

-- whether a frame of the task is released and not ended
abbrev pub is_ready : ImageTask → ℕ → Running → Bool
is_ready image_task now task = nat_lt task.ended (now / image_task.period + 1)

-- what a tick leaves of the tasks, and the entry that it makes
pub record Ticked : Type 0 where
  pub tasks : List Running
  pub entry : Option Entry

-- the entry at the end of a tick in which the task of this number showed something
abbrev pub entry_of : ℕ → ℕ → Running → Option What → Option Entry
entry_of now number task None = None
entry_of now number task (Some what) = Some (record { time = now + 1; task = number; frame = task.ended; what = what })

-- the tasks after a task that was not ready
abbrev pub after : Running → Ticked → Ticked
after task ticked = record { tasks = task ∷ ticked.tasks; entry = ticked.entry }

-- the tasks where the first of them has the tick
abbrev pub runs : ℕ → ℕ → Running → Outcome → List Running → Ticked
runs now number task outcome others =
    record { tasks = outcome.task ∷ others; entry = entry_of now number task outcome.shown }

-- a tick of these tasks, numbered from this number: the first that is ready has it
abbrev pub tick_from : Costs → ℕ → List ImageTask → Streams → ℕ → List Running → Ticked
tick_from costs now (image_task ∷ image_tasks) streams number (task ∷ tasks) =
    if is_ready image_task now task
    then runs now number task (own_tick costs image_task (slice_index_or streams number []) now task) tasks
    else after task (tick_from costs now image_tasks streams (number + 1) tasks)
tick_from costs now _ streams number tasks = record { tasks = tasks; entry = None }

-- one tick
abbrev pub tick : Image → Streams → Machine → Ticked
tick image streams machine = tick_from image.costs machine.now image.tasks streams 0 machine.tasks

-- the machine after a tick
abbrev pub next : Image → Streams → Machine → Machine
next image streams machine = record { now = machine.now + 1; tasks = (tick image streams machine).tasks }

-- the entries of so many ticks from here on
abbrev pub entries : Image → Streams → ℕ → Machine → List Entry
entries image streams zero machine = []
entries image streams (suc ticks) machine =
    let ticked = tick image streams machine in
    option_to_list ticked.entry ++ entries image streams ticks (record { now = machine.now + 1; tasks = ticked.tasks })

-- the entries of the first so many ticks of a run
abbrev pub trace : Image → Streams → ℕ → List Entry
trace image streams ticks = entries image streams ticks (start image)
