-- A task with the two bodies of its frames.
use Rattle.std.specs.Prelude.{◌+◌, Bool, List}
use Rattle.tcel_core.specs.declared.var.Var.{Var}
use Rattle.tcel_core.specs.Cells.{all_words}
use Rattle.tcel_core.specs.Contents.{loops}
use Rattle.tcel_core.specs.Language.{Block, Task}
use Rattle.tcel_cost.specs.Forms.{Form}

abbrev pub halved : Task → Bool → Block → Block → List Var → Form
halved task sliced first rest vars =
    record { task = task; sliced = sliced; parts = record { first = first; rest = rest; vars = vars; words = all_words vars + loops task.body } }
