-- Where the definition of the machine has a default (an empty stack, a place outside the code, a cell or an input that isn't there), a valid image's run
-- never takes it.
use Rattle.std.specs.Prelude.{◌≡◌, ℕ, zero, suc, ◌+◌, ◌≤◌, ◌<◌, length, Some, slice_get}
use Rattle.std.specs.List.{AllByRecursion}
use Rattle.tcel_image.specs.declared.image.Image.{Image}
use Rattle.tcel_image.specs.declared.image.ImageTask.{ImageTask}
use Rattle.tcel_image.specs.declared.image.Instr.{Instr}
use Rattle.tcel_image.specs.declared.image.Instr.TheVariants.{Receive}
use Rattle.tcel_image.specs.declared.image.Line.{Line}
use Rattle.tcel_image.specs.Instructions.{Range, pops, ranges}
use Rattle.tcel_image.specs.Machine.{Machine, Running, Streams, next, start}
use Rattle.tcel_image.specs.Spelling.{InRange, state_words}
use Rattle.tcel_image.specs.Validity.{IsValid}

-- the machine after so many ticks
abbrev pub machine_after : Image → Streams → ℕ → Machine
machine_after image streams zero = start image
machine_after image streams (suc ticks) = next image streams (machine_after image streams ticks)

-- the input that an instruction receives from has a count
abbrev pub HasInput : Instr → Running → Type 0
HasInput (Receive port cell) r = port < length r.taken
HasInput _ r = Unit {0}

-- a task stands at a line of its code, with a stack as deep as is written there; its instruction finds the values that it pops, the cells that it names and
-- its input, and the states have their cells
pub record FindsAll (task : ImageTask) (r : Running) : Type 0 where
  pub line : Line
  pub there : slice_get task.code r.place ≡ Some line
  pub deep : length r.stack ≡ line.depth
  pub values : pops line.instr ≤ length r.stack
  pub cells : AllByRecursion (λ (range : Range). range.from + range.length ≤ length r.cells) (ranges line.instr)
  pub input : HasInput line.instr r
  pub states : state_words task.states ≤ length r.cells

-- so it is at every time of every run of a valid image in range, for each of its tasks
pub record TakesNoDefault (image : Image) (machine : Machine) : Type 0 where
  pub as_many : length machine.tasks ≡ length image.tasks
  pub each : (number : ℕ) (task : ImageTask) (r : Running) → slice_get image.tasks number ≡ Some task → slice_get machine.tasks number ≡ Some r → FindsAll task r

abbrev pub NoStepTakesADefault : Type 0
NoStepTakesADefault = (image : Image) (streams : Streams) (ticks : ℕ) → InRange image → IsValid image → TakesNoDefault image (machine_after image streams ticks)
