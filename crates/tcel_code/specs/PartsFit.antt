-- Which forms of a task the code's theorem speaks of: their parts fit, and mean the task's body.
use Rattle.std.specs.Prelude.{◌≡◌, ℕ, ◌<◌, ℤ, Bool, List, length}
use Rattle.tcel_core.specs.Frames.{start_cells, state_words}
use Rattle.tcel_core.specs.Language.{Task}
use Rattle.tcel_core.specs.Meaning.{exec}
use Rattle.tcel_core.specs.Outcome.{Memory}
use Rattle.tcel_core.specs.Kept.{IsKeptSet}
use Rattle.tcel_core.specs.Parts.{TaskParts, parts_of, slicing_of}
use Rattle.tcel_core.specs.Scope.{Fits, LoopsAreUntimed}
use Rattle.tcel_core.specs.Sound.{IsSoundTask}
use Rattle.tcel_parts.specs.SliceLaw.{DoTheSame}
use Rattle.tcel_cost.specs.Forms.{Form}
use Rattle.tcel_code.specs.Counters.{HaveTheirCounters}

-- from the start of a frame with any state and any inputs, the first part and then the rest do what the body does: the first makes its events, the
-- second none, and they leave its inputs and its states
abbrev pub PartsMean : Task → TaskParts → Type 0
PartsMean task parts =
    (state : List ℤ) (inputs : List (List ℤ)) → length state ≡ state_words task.vars →
    let before : Memory = record { cells = start_cells task.vars state; inputs = inputs } in
    let beside : Memory = record { cells = start_cells parts.vars state; inputs = inputs } in
    let first = exec parts.first parts.vars beside in
    DoTheSame task.vars parts.vars (exec task.body task.vars before) first (exec parts.rest parts.vars first.memory)

-- a form of a checked task
pub record PartsFit (form : Form) : Type 0 where
  pub period : 0 < form.task.period
  -- the states have their words among those of the parts' variables
  pub states : state_words form.parts.vars ≡ state_words form.task.vars
  pub first : Fits form.parts.first form.parts.vars
  pub rest : Fits form.parts.rest form.parts.vars
  pub untimed : LoopsAreUntimed form.parts.first
  pub first_counters : HaveTheirCounters form.task.body form.parts.first
  pub rest_counters : HaveTheirCounters form.task.body form.parts.rest
  pub mean : PartsMean form.task form.parts

-- the parts of a checked task by its kept set mean its body so
abbrev pub SlicesMean : Type 0
SlicesMean = (task : Task) (kept : ℕ → Bool) → IsSoundTask task → IsKeptSet task.body kept → PartsMean task (parts_of (slicing_of task kept))
