use Rattle.std.proofs.Common.{◌+◌, ◌≤◌, List, sym, subst}
use Rattle.tcel_core.specs.declared.var.Var.{Var}
use Rattle.tcel_core.specs.Cells.{all_words}
use Rattle.tcel_core.specs.Contents.{loops}
use Rattle.tcel_core.specs.Parts.{plain_parts}
use Rattle.tcel_core.specs.Plain.{plain_body, plain_task}
use Rattle.tcel_gen.proofs.CodableForms.{own_has_code, whole_has_code}
use Rattle.tcel_gen.proofs.task.image_task.Goals as goal

pub halved_task-requires-clause-first : goal.halved_task-requires-clause-first
halved_task-requires-clause-first c = (own_has_code (plain_task c.args.task.now) (plain_parts c.args.parts.now) c.requires.sound c.requires.own).first

pub halved_task-requires-clause-rest : goal.halved_task-requires-clause-rest
halved_task-requires-clause-rest c = (own_has_code (plain_task c.args.task.now) (plain_parts c.args.parts.now) c.requires.sound c.requires.own).rest

pub halved_task-requires-2-clause-few : goal.halved_task-requires-2-clause-few
halved_task-requires-2-clause-few c =
    subst (λ (l : List Var). all_words l + loops (plain_body c.args.task.now.body) ≤ 65536) (sym c.as_slice-2.ensures) (whole_has_code (plain_task c.args.task.now) c.requires.sound).few

pub halved_task-requires-2-clause-first : goal.halved_task-requires-2-clause-first
halved_task-requires-2-clause-first c = (whole_has_code (plain_task c.args.task.now) c.requires.sound).first
