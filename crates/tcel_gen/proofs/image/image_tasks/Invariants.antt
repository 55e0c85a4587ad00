use Rattle.std.proofs.Common.{◌≡◌, ◌++◌, drop, map}
use Rattle.tcel_core.specs.Parts.{plain_parts}
use Rattle.tcel_core.specs.Plain.{plain_task}
use Rattle.tcel_cost.specs.Forms.{forms_of}
use Rattle.tcel_code.specs.Layout.{form_task}
use Rattle.tcel_gen.proofs.image.image_tasks.Given as goal

abbrev pub invariant-loop-i : goal.invariant-loop-i
invariant-loop-i l =
    l.all ++ map form_task (forms_of l.sliced (map plain_task (drop l.i l.tasks)) (map plain_parts (drop l.i l.parts)))
    ≡ map form_task (forms_of l.sliced (map plain_task l.tasks) (map plain_parts l.parts))
