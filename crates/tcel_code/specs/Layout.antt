-- The image of a set.
use Rattle.std.specs.Prelude.{ℕ, ◌+◌, List, [], map, filter, unwrap_or}
use Rattle.tcel_core.specs.declared.var.Var.{Var}
use Rattle.tcel_core.specs.declared.var.VarKind.{VarKind}
use Rattle.tcel_core.specs.Cells.{all_words, words_of}
use Rattle.tcel_core.specs.Frames.{is_state, first_words}
use Rattle.tcel_core.specs.Language.{Task}
use Rattle.tcel_target.specs.declared.costs.Costs.{Costs}
use Rattle.tcel_image.specs.declared.image.Image.{Image}
use Rattle.tcel_image.specs.declared.image.ImageTask.{ImageTask}
use Rattle.tcel_image.specs.declared.image.ImageState.{ImageState}
use Rattle.tcel_image.specs.declared.image.StateKind.{StateKind}
use Rattle.tcel_image.specs.declared.image.StateKind.TheVariants as kinds
use Rattle.tcel_core.specs.Contents.{loops}
use Rattle.tcel_image.specs.Spelling.{spelling}
use Rattle.tcel_cost.specs.Forms.{Form, whole_form}
use Rattle.tcel_code.specs.Code.{frame_code}
use Rattle.tcel_code.specs.Counters.{counters_of}

-- how a variable is shown
abbrev pub kind_of : VarKind → StateKind
kind_of VarKind.Int = kinds.Int
kind_of VarKind.Bool = kinds.Bool
kind_of (VarKind.Array n) = kinds.Array

-- a state of the image, which each state variable of a program has a name for
abbrev pub state_of : Var → ImageState
state_of v = record { name = unwrap_or v.name []; kind = kind_of v.kind; words = words_of v.kind; first = first_words v.kind v.first }

-- the states, in the order of the variables
abbrev pub states_of : List Var → List ImageState
states_of vars = map state_of (filter (λ v. is_state v.keep) vars)

-- a task in a form: its variables' words are its first cells, and the counters of its source's loops follow
abbrev pub form_task : Form → ImageTask
form_task form =
    record {
      name = form.task.name;
      period = form.task.period;
      sliced = form.sliced;
      inputs = form.task.inputs;
      outputs = form.task.outputs;
      states = states_of form.task.vars;
      cells = all_words form.parts.vars + loops form.task.body;
      code = frame_code form.parts.first form.parts.rest form.parts.vars (counters_of form.task.body form.parts.vars);
    }

-- the image of these tasks, in their order, for a processor with these costs
abbrev pub layout : List Form → Costs → Image
layout forms costs = record { costs = costs; tasks = map form_task forms }

-- a task that is not sliced
abbrev pub image_task : Task → ImageTask
image_task task = form_task (whole_form task)

-- the image of a set of which no task is sliced
abbrev pub image_of : List Task → Costs → Image
image_of set costs = layout (map whole_form set) costs

-- the bytes that the compiler writes for them
abbrev pub written : List Task → Costs → List ℕ
written set costs = spelling (image_of set costs)
