use Rattle.std.proofs.Common.{inl, inr, refl, subst}
use Rattle.std.specs.Prelude.{map, string_bytes}
use Rattle.tcel_core.specs.Plain.{plain_set}
use Rattle.tcel_tool.specs.Answer.{OrMemory}
use Rattle.tcel_tool.specs.Chosen.{plain_choice}
use Rattle.tcel_tool.specs.ProgramText.{RefusesText}
use Rattle.tcel_tool.specs.SetChoice.{IsBest}
use Rattle.tcel_tool.specs.declared.choice.ChosenSet.{ChosenSet}
use Rattle.tcel_tool.specs.TargetText.{RefusesTarget}
use Rattle.tcel_tool.proofs.ChoiceStages.{at_error, behind_set, choice_for, faulty, passed_all, read_both, read_program, stopped_at_choice, stopped_behind_program, stopped_behind_set, with_both}
use Rattle.tcel_tool.proofs.Checkable.{text_is_checkable}
use Rattle.tcel_tool.proofs.choice.choose_for.Goals as goal

pub choose-requires-clause-sound : goal.choose-requires-clause-sound
choose-requires-clause-sound g c = c.in_ok-set.ensures.sound (text_is_checkable c.in_ok-program.ensures.program)

pub returns-in_err-text-clause-stopped : goal.returns-in_err-text-clause-stopped
returns-in_err-text-clause-stopped g c =
    let exit = c.from_residual in
    at_error _ exit.result c.in_err-text.field-0.0 exit.ensures.1 (inl c.in_err-text.ensures.stopped)

pub returns-in_err-program-clause-stopped : goal.returns-in_err-program-clause-stopped
returns-in_err-program-clause-stopped g c =
    let exit = c.from_residual-in_err-program in
    let given = c.in_err-program.field-0.0 in
    let cause = subst (λ t. OrMemory (RefusesText t) given) c.deref.ensures.value c.in_err-program.ensures.refusal in
    at_error _ exit.result given exit.ensures.1
    (inr (c.in_ok-text.text.items, g.H.Shelf.seen c.load.new.shelf, c.in_ok-text.ensures.loaded, inl (cause, tt, refl)))

pub returns-in_err-set-clause-stopped : goal.returns-in_err-set-clause-stopped
returns-in_err-set-clause-stopped g c =
    let read = read_program c.deref.result.now c.in_ok-text.ensures.loaded c.deref.ensures.value c.in_ok-program.ensures.program in
    let exit = c.from_residual-in_err-set in
    let given = c.in_err-set.field-0.0 in
    at_error _ exit.result given exit.ensures.1 (stopped_behind_program behind_set (g.H.Shelf.seen c.load.new.shelf) given c.args.task.now read (inl (faulty read given c.in_err-set.ensures.refusal, tt, refl)))

pub returns-in_err-lines-clause-stopped : goal.returns-in_err-lines-clause-stopped
returns-in_err-lines-clause-stopped g c =
    let read = read_program c.deref.result.now c.in_ok-text.ensures.loaded c.deref.ensures.value c.in_ok-program.ensures.program in
    let exit = c.from_residual-in_err-lines in
    at_error _ exit.result c.in_err-lines.field-0.0 exit.ensures.1
    (stopped_behind_set behind_set (g.H.Shelf.seen c.load-2.new.shelf) c.in_err-lines.field-0.0 c.args.task.now read c.in_ok-set.ensures.free (inl c.in_err-lines.ensures.stopped))

pub returns-in_err-costs-clause-stopped : goal.returns-in_err-costs-clause-stopped
returns-in_err-costs-clause-stopped g c =
    let read = read_program c.deref.result.now c.in_ok-text.ensures.loaded c.deref.ensures.value c.in_ok-program.ensures.program in
    let exit = c.from_residual-in_err-costs in
    let given = c.in_err-costs.field-0.0 in
    let cause = subst (λ t. OrMemory (RefusesTarget t) given) c.deref-2.ensures.value c.in_err-costs.ensures.refusal in
    at_error _ exit.result given exit.ensures.1
    (stopped_behind_set behind_set (g.H.Shelf.seen c.load-2.new.shelf) given c.args.task.now read c.in_ok-set.ensures.free
    (inr (c.in_ok-lines.lines.items, g.H.Shelf.seen c.load-2.new.shelf, c.in_ok-lines.ensures.loaded, inl (cause, tt, refl))))

pub returns-in_err-choice-clause-stopped : goal.returns-in_err-choice-clause-stopped
returns-in_err-choice-clause-stopped g c =
    let first = read_program c.deref.result.now c.in_ok-text.ensures.loaded c.deref.ensures.value c.in_ok-program.ensures.program in
    let read = read_both c.deref-2.result.now first c.in_ok-set.ensures.free c.in_ok-lines.ensures.loaded c.deref-2.ensures.value c.in_ok-costs.ensures.gives in
    let exit = c.from_residual-in_err-choice in
    let given = c.in_err-choice.field-0.0 in
    at_error _ exit.result given exit.ensures.1
    (stopped_at_choice read (plain_set c.in_ok-set.set) given c.choose.new.task c.in_ok-set.ensures.set c.in_err-choice.ensures.refusal c.in_err-choice.ensures.named)

pub returns-clause-passed : goal.returns-clause-passed
returns-clause-passed g c =
    let first = read_program c.deref.result.now c.in_ok-text.ensures.loaded c.deref.ensures.value c.in_ok-program.ensures.program in
    let read = read_both c.deref-2.result.now first c.in_ok-set.ensures.free c.in_ok-lines.ensures.loaded c.deref-2.ensures.value c.in_ok-costs.ensures.gives in
    let made : ChosenSet = record { set = c.in_ok-set.set; costs = c.in_ok-costs.costs; choice = c.in_ok-choice.choice } in
    let fit = c.in_ok-choice.ensures.fit in
    let best : IsBest (plain_choice made) = record {
      sound = c.in_ok-set.ensures.sound (text_is_checkable c.in_ok-program.ensures.program);
      costs = c.in_ok-costs.ensures.gives.ranges;
      chosen = c.in_ok-choice.ensures.chosen;
      hyper = fit.0;
      fit = fit.1;
    } in
    let for = choice_for read (plain_choice made) c.in_ok-set.ensures.set refl best in
    (with_both (map string_bytes c.args.words.now) c.in_ok-text.text.items c.in_ok-lines.lines.items, refl, passed_all read (plain_choice made) for, for)
