use Rattle.std.proofs.Common.{refl, ◌∙◌}
use Rattle.tcel_check.specs.declared.fail.LimitKind.TheVariants.{Variables}
use Rattle.tcel_check.specs.Rows.{at_decl}
use Rattle.tcel_check.proofs.Heads.{past_adds}
use Rattle.tcel_check.proofs.head.many_names.Goals as goal

pub returns-in-Some : goal.returns-in-Some
returns-in-Some c = past_adds Variables at_decl 256 c.args.decls.now c.copied.result (c.copied.ensures ∙ c.at.ensures) (rw c.in-Some.is c.keep.ensures)

pub returns-in_default : goal.returns-in_default
returns-in_default c = past_adds Variables at_decl 256 c.args.decls.now c.copied.result (c.copied.ensures ∙ c.at.ensures) (rw c.in_default.is refl)
