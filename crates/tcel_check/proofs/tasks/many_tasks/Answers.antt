use Rattle.std.proofs.Common.{refl, ◌∙◌, sym, ap, option_map, map}
use Rattle.std.specs.Prelude.{option_copied}
use Rattle.tcel_tree.specs.Plain.{plain_task}
use Rattle.tcel_check.specs.declared.fail.LimitKind.TheVariants.{Tasks}
use Rattle.tcel_check.specs.Rows.{at_task}
use Rattle.tcel_check.proofs.Heads.{past_adds}
use Rattle.std.proofs.lemmas.Option.{slice_get-map}
use Rattle.tcel_check.proofs.tasks.many_tasks.Goals as goal

pub returns-in-Some : goal.returns-in-Some
returns-in-Some c =
    past_adds Tasks at_task 16 (map plain_task c.args.tasks.now) (option_map plain_task (option_copied c.at.result))
    (ap (option_map plain_task) c.at.ensures ∙ sym (slice_get-map plain_task c.args.tasks.now 16)) (rw c.in-Some.is c.keep.ensures)

pub returns-in_default : goal.returns-in_default
returns-in_default c =
    past_adds Tasks at_task 16 (map plain_task c.args.tasks.now) (option_map plain_task (option_copied c.at.result))
    (ap (option_map plain_task) c.at.ensures ∙ sym (slice_get-map plain_task c.args.tasks.now 16)) (rw c.in_default.is refl)
