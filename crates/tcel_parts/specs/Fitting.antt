-- The parts of a task are statements of which the code's theorem speaks.
use Rattle.std.specs.Prelude.{◌≡◌}
use Rattle.tcel_core.specs.Frames.{state_words}
use Rattle.tcel_core.specs.Language.{Task}
use Rattle.tcel_core.specs.Parts.{AreOwnParts, TaskParts}
use Rattle.tcel_core.specs.Scope.{Fits, IsUntimed, LoopsAreUntimed}
use Rattle.tcel_core.specs.Sound.{IsSoundTask}

-- both parts are in scope over the variables of both, with the words of the task's states among them;
-- no loop of the first holds a `do` block, and in the rest there is none
pub record PartsAreInScope (task : Task) (parts : TaskParts) : Type 0 where
  pub states : state_words parts.vars ≡ state_words task.vars
  pub first : Fits parts.first parts.vars
  pub rest : Fits parts.rest parts.vars
  pub loops : LoopsAreUntimed parts.first
  pub untimed : IsUntimed parts.rest

-- the parts of a checked task are so
abbrev pub OwnPartsAreInScope : Type 0
OwnPartsAreInScope = (task : Task) (parts : TaskParts) → IsSoundTask task → AreOwnParts task parts → PartsAreInScope task parts
