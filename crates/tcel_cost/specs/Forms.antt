-- The forms in which a task is compiled: whole, or in two parts, of which the first has all its events and the rest may run later.
use Rattle.std.specs.Prelude.{ℕ, ◌+◌, Bool, true, false, nat_le, List, [], ◌∷◌, length}
use Rattle.tcel_core.specs.Cells.{all_words}
use Rattle.tcel_core.specs.Contents.{loops}
use Rattle.tcel_core.specs.Language.{done, Task}
use Rattle.tcel_core.specs.Parts.{TaskParts}

-- a task with the two bodies of its frames; sliced is the mark that its image bears
pub record Form : Type 0 where
  pub task : Task
  pub sliced : Bool
  pub parts : TaskParts

-- the parts of a task that is not sliced: its body, and nothing
abbrev pub whole_parts : Task → TaskParts
whole_parts task = record { first = task.body; rest = done; vars = task.vars; words = all_words task.vars + loops task.body }

-- a task that is not sliced
abbrev pub whole_form : Task → Form
whole_form task = record { task = task; sliced = false; parts = whole_parts task }

-- a task in the form that it is compiled in: sliced into its parts, or whole
abbrev pub form_of : Task → Bool → TaskParts → Form
form_of task true parts = record { task = task; sliced = true; parts = parts }
form_of task false parts = whole_form task

-- the forms of a set of which so many of the last tasks are sliced, into these parts
abbrev pub forms_of : ℕ → List Task → List TaskParts → List Form
forms_of sliced [] parts = []
forms_of sliced (task ∷ tasks) [] = []
forms_of sliced (task ∷ tasks) (own ∷ parts) = form_of task (nat_le (length (task ∷ tasks)) sliced) own ∷ forms_of sliced tasks parts
