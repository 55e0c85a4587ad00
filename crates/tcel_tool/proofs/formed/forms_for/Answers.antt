use Rattle.std.proofs.Common.{◌∷◌, inl, inr, refl, subst}
use Rattle.std.specs.Prelude.{map, string_bytes}
use Rattle.tcel_core.specs.Plain.{plain_set}
use Rattle.tcel_tool.specs.Answer.{OrMemory}
use Rattle.tcel_tool.specs.FormedSet.{plain_forms}
use Rattle.tcel_tool.specs.ProgramText.{RefusesText}
use Rattle.tcel_tool.specs.declared.formed.FormedSet.{FormedSet}
use Rattle.tcel_tool.specs.Stage.{test}
use Rattle.tcel_tool.specs.TargetText.{RefusesTarget}
use Rattle.tcel_tool.specs.Test as tests
use Rattle.tcel_tool.proofs.ChoiceStages.{at_error, faulty, read_both, read_program, stopped_behind_program, with_both}
use Rattle.tcel_tool.proofs.Checkable.{text_is_checkable}
use Rattle.tcel_tool.proofs.FewestStages.{behind_count, forms_given, passed_all, stopped_at_count, stopped_at_forms, stopped_behind_count}
use Rattle.tcel_tool.proofs.formed.forms_for.Goals as goal

pub forms-requires-clause-sound : goal.forms-requires-clause-sound
forms-requires-clause-sound g c = c.in_ok-set.ensures.sound (text_is_checkable c.in_ok-program.ensures.program)

pub returns-in_err-text-clause-stopped : goal.returns-in_err-text-clause-stopped
returns-in_err-text-clause-stopped g c =
    let exit = c.from_residual in
    at_error _ exit.result c.in_err-text.field-0.0 exit.ensures.1 (inl c.in_err-text.ensures.stopped)

pub returns-in_err-program-clause-stopped : goal.returns-in_err-program-clause-stopped
returns-in_err-program-clause-stopped g c =
    let exit = c.from_residual-in_err-program in
    let given = c.in_err-program.field-0.0 in
    let cause = subst (λ t. OrMemory (RefusesText t) given) c.deref.ensures.value c.in_err-program.ensures.refusal in
    at_error _ exit.result given exit.ensures.1
    (inr (c.in_ok-text.text.items, g.H.Shelf.seen c.load.new.shelf, c.in_ok-text.ensures.loaded, inl (cause, tt, refl)))

pub returns-in_err-set-clause-stopped : goal.returns-in_err-set-clause-stopped
returns-in_err-set-clause-stopped g c =
    let read = read_program c.deref.result.now c.in_ok-text.ensures.loaded c.deref.ensures.value c.in_ok-program.ensures.program in
    let exit = c.from_residual-in_err-set in
    let given = c.in_err-set.field-0.0 in
    at_error _ exit.result given exit.ensures.1 (stopped_behind_program (test tests.few ∷ behind_count) (g.H.Shelf.seen c.load.new.shelf) given c.args.task.now read (inl (faulty read given c.in_err-set.ensures.refusal, tt, refl)))

pub returns-in_err-check_count-clause-stopped : goal.returns-in_err-check_count-clause-stopped
returns-in_err-check_count-clause-stopped g c =
    let read = read_program c.deref.result.now c.in_ok-text.ensures.loaded c.deref.ensures.value c.in_ok-program.ensures.program in
    let exit = c.from_residual-in_err-check_count in
    let given = c.in_err-check_count.field-0.0 in
    at_error _ exit.result given exit.ensures.1
    (stopped_at_count given c.args.task.now read c.in_ok-set.ensures.free (plain_set c.in_ok-set.set) c.in_ok-set.ensures.set c.in_err-check_count.ensures.refusal)

pub returns-in_err-lines-clause-stopped : goal.returns-in_err-lines-clause-stopped
returns-in_err-lines-clause-stopped g c =
    let read = read_program c.deref.result.now c.in_ok-text.ensures.loaded c.deref.ensures.value c.in_ok-program.ensures.program in
    let exit = c.from_residual-in_err-lines in
    let given = c.in_err-lines.field-0.0 in
    at_error _ exit.result given exit.ensures.1
    (stopped_behind_count (g.H.Shelf.seen c.load-2.new.shelf) given c.args.task.now read c.in_ok-set.ensures.free (plain_set c.in_ok-set.set) c.in_ok-set.ensures.set
    c.in_ok-check_count.ensures.few (inl c.in_err-lines.ensures.stopped))

pub returns-in_err-costs-clause-stopped : goal.returns-in_err-costs-clause-stopped
returns-in_err-costs-clause-stopped g c =
    let read = read_program c.deref.result.now c.in_ok-text.ensures.loaded c.deref.ensures.value c.in_ok-program.ensures.program in
    let exit = c.from_residual-in_err-costs in
    let given = c.in_err-costs.field-0.0 in
    let cause = subst (λ t. OrMemory (RefusesTarget t) given) c.deref-2.ensures.value c.in_err-costs.ensures.refusal in
    at_error _ exit.result given exit.ensures.1
    (stopped_behind_count (g.H.Shelf.seen c.load-2.new.shelf) given c.args.task.now read c.in_ok-set.ensures.free (plain_set c.in_ok-set.set) c.in_ok-set.ensures.set
    c.in_ok-check_count.ensures.few (inr (c.in_ok-lines.lines.items, g.H.Shelf.seen c.load-2.new.shelf, c.in_ok-lines.ensures.loaded, inl (cause, tt, refl))))

pub returns-in_err-forms-clause-stopped : goal.returns-in_err-forms-clause-stopped
returns-in_err-forms-clause-stopped g c =
    let first = read_program c.deref.result.now c.in_ok-text.ensures.loaded c.deref.ensures.value c.in_ok-program.ensures.program in
    let read = read_both c.deref-2.result.now first c.in_ok-set.ensures.free c.in_ok-lines.ensures.loaded c.deref-2.ensures.value c.in_ok-costs.ensures.gives in
    let exit = c.from_residual-in_err-forms in
    let given = c.in_err-forms.field-0.0 in
    at_error _ exit.result given exit.ensures.1
    (stopped_at_forms read (plain_set c.in_ok-set.set) c.in_ok-set.ensures.set c.in_ok-check_count.ensures.few given c.forms.new.task
    c.in_err-forms.ensures.refusal c.in_err-forms.ensures.named)

pub returns-clause-passed : goal.returns-clause-passed
returns-clause-passed g c =
    let first = read_program c.deref.result.now c.in_ok-text.ensures.loaded c.deref.ensures.value c.in_ok-program.ensures.program in
    let read = read_both c.deref-2.result.now first c.in_ok-set.ensures.free c.in_ok-lines.ensures.loaded c.deref-2.ensures.value c.in_ok-costs.ensures.gives in
    let made : FormedSet = record { set = c.in_ok-set.set; costs = c.in_ok-costs.costs; forms = c.in_ok-forms.forms } in
    let set = plain_set c.in_ok-set.set in
    let few = c.in_ok-check_count.ensures.few in
    let for = forms_given read set c.in_ok-set.ensures.set few (plain_forms made) refl refl c.in_ok-forms.ensures.forms in
    let passed = passed_all read set c.in_ok-set.ensures.set few (plain_forms made) for in
    (with_both (map string_bytes c.args.words.now) c.in_ok-text.text.items c.in_ok-lines.lines.items, refl, passed, for)
