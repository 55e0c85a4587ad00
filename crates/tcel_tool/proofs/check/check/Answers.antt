use Rattle.std.proofs.Common.{[], ◌∷◌, inl, inr, refl, subst}
use Rattle.std.specs.Prelude.{codes}
use Rattle.tcel_tool.specs.Answer.{OrMemory}
use Rattle.tcel_tool.specs.ProgramText.{RefusesText}
use Rattle.tcel_tool.specs.declared.status.Status.TheVariants as statuses
use Rattle.tcel_tool.proofs.CheckStages.{behind_faults, behind_text, faulty, ok_is, read_text}
use Rattle.tcel_tool.proofs.Exits.{at_end, at_write_fault, cut_off, ended, stops, taken}
use Rattle.tcel_tool.proofs.check.check.Goals as goal

pub returns-in_err-program-clause-goes : goal.returns-in_err-program-clause-goes
returns-in_err-program-clause-goes g c =
    let exit = c.from_residual-in_err-program in
    let given = c.in_err-program.field-0.0 in
    let cause = subst (λ t. OrMemory (RefusesText t) given) c.deref.ensures.value c.in_err-program.ensures.refusal in
    inr (c.in_ok-text.text.items, g.H.Shelf.seen c.load.new.shelf, c.in_ok-text.ensures.loaded, inl (stops exit.result given exit.ensures.1 cause, tt))

pub returns-in_err-set_of-clause-goes : goal.returns-in_err-set_of-clause-goes
returns-in_err-set_of-clause-goes g c =
    let read = read_text c.deref.result.now c.in_ok-text.ensures.loaded c.deref.ensures.value c.in_ok-program.ensures.program in
    let out = g.K.Sink.seen c.args.out.now in
    let exit = c.from_residual-in_err-set_of in
    let end = ended (g.H.Shelf.seen c.load.new.shelf) out out exit.result in
    let given = c.in_err-set_of.field-0.0 in
    behind_text end read (inl (stops exit.result given exit.ensures.1 (faulty end read given c.in_err-set_of.ensures.refusal), tt))

pub returns-in_err-put-clause-goes : goal.returns-in_err-put-clause-goes
returns-in_err-put-clause-goes g c =
    let read = read_text c.deref.result.now c.in_ok-text.ensures.loaded c.deref.ensures.value c.in_ok-program.ensures.program in
    let exit = c.from_residual-in_err-put in
    let end = ended (g.H.Shelf.seen c.load.new.shelf) (g.K.Sink.seen c.args.out.now) (g.K.Sink.seen c.put.new.self) exit.result in
    let free = c.in_ok-set_of.ensures.free in
    behind_faults end read free (inr (cut_off (codes "ok\n" ∷ []) exit.result (ok_is end read free) exit.ensures.1 (inl c.in_err-put.ensures.cut_off)))

pub returns-clause-goes : goal.returns-clause-goes
returns-clause-goes g c =
    let read = read_text c.deref.result.now c.in_ok-text.ensures.loaded c.deref.ensures.value c.in_ok-program.ensures.program in
    let after = g.K.Sink.seen c.put.new.self in
    let end = at_end (g.H.Shelf.seen c.load.new.shelf) (g.K.Sink.seen c.args.out.now) after statuses.Ok in
    let free = c.in_ok-set_of.ensures.free in
    behind_faults end read free (inr (taken (codes "ok\n" ∷ []) (ok_is end read free) (after, c.in_ok-put.ensures.taken, refl)))

pub returns-in_err-put-clause-untouched : goal.returns-in_err-put-clause-untouched
returns-in_err-put-clause-untouched g c = inl (at_write_fault c.from_residual-in_err-put.result c.from_residual-in_err-put.ensures.1)
