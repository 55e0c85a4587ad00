use Rattle.std.proofs.Common.{◌≤◌, List, sym, subst, ap, arith}
use Rattle.tcel_core.specs.declared.var.Var.{Var}
use Rattle.tcel_core.specs.Cells.{all_words}
use Rattle.tcel_core.specs.Parts.{TaskParts}
use Rattle.tcel_core.specs.Plain.{plain_task}
use Rattle.tcel_parts.specs.SliceLaw.{MeanTheBody}
use Rattle.tcel_parts.proofs.Assembly.{parts_mean_the_body}
use Rattle.tcel_slice.specs.Keeping.{marked}
use Rattle.tcel_parts.specs.Fitting.{PartsAreInScope}
use Rattle.tcel_parts.proofs.FittingParts.{parts_fit}
use Rattle.tcel_rename.proofs.two_parts.parts.Goals as goal

pub returns-in-Ok-assembled-clause-law : goal.returns-in-Ok-assembled-clause-law
returns-in-Ok-assembled-clause-law c =
    subst (MeanTheBody (plain_task c.args.task.now)) (sym c.in-Ok-assembled.ensures) (parts_mean_the_body (plain_task c.args.task.now) (marked c.args.kept.now.list) c.requires.sound c.requires.kept)

pub returns-in-Ok-assembled-clause-scope : goal.returns-in-Ok-assembled-clause-scope
returns-in-Ok-assembled-clause-scope c =
    subst (PartsAreInScope (plain_task c.args.task.now)) (sym c.in-Ok-assembled.ensures) (parts_fit (plain_task c.args.task.now) (marked c.args.kept.now.list) c.requires.sound)

pub returns-in-Ok-assembled-clause-own : goal.returns-in-Ok-assembled-clause-own
returns-in-Ok-assembled-clause-own c =
    let same = ap (λ (vars : List Var). all_words vars) c.in-Ok-numbers_of.ensures.vars in
    record {
      kept = marked c.args.kept.now.list;
      least = c.requires.kept;
      are = c.in-Ok-assembled.ensures;
      few = subst (λ n. n ≤ 65536) (sym (ap (λ (p : TaskParts). p.words) c.in-Ok-assembled.ensures)) (omega arith);
    }
