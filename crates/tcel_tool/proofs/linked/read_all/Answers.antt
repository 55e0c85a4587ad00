use Rattle.std.proofs.Common.{inl, inr, refl, subst}
use Rattle.std.specs.Prelude.{map, string_bytes}
use Rattle.tcel_core.specs.Plain.{plain_set}
use Rattle.tcel_tool.specs.Answer.{OrMemory}
use Rattle.tcel_tool.specs.Chosen.{plain_choice}
use Rattle.tcel_tool.specs.ProgramText.{RefusesText}
use Rattle.tcel_tool.specs.SetChoice.{IsBest}
use Rattle.tcel_tool.specs.declared.choice.ChosenSet.{ChosenSet}
use Rattle.tcel_tool.proofs.Checkable.{text_is_checkable}
use Rattle.tcel_tool.proofs.ChoiceStages.{at_error, faulty, read_program, stopped_behind_program, stopped_behind_set}
use Rattle.tcel_tool.proofs.LinkedStages.{after_set, behind_choice, behind_links, passed_all, read_lines, reads_all, stopped_at_choice, stopped_at_links, stopped_at_script, stopped_at_target, with_script}
use Rattle.tcel_tool.proofs.linked.read_all.Goals as goal

pub links_of-requires-clause-sound : goal.links_of-requires-clause-sound
links_of-requires-clause-sound g c = c.in_ok-set.ensures.sound (text_is_checkable c.in_ok-program.ensures.program)

pub choose-requires-clause-sound : goal.choose-requires-clause-sound
choose-requires-clause-sound g c = c.in_ok-set.ensures.sound (text_is_checkable c.in_ok-program.ensures.program)

pub script_of-requires-clause-sound : goal.script_of-requires-clause-sound
script_of-requires-clause-sound g c = c.in_ok-set.ensures.sound (text_is_checkable c.in_ok-program.ensures.program)

pub returns-in_err-text-clause-stopped : goal.returns-in_err-text-clause-stopped
returns-in_err-text-clause-stopped g c =
    let exit = c.from_residual in
    let given = c.in_err-text.field-0.0 in
    at_error _ exit.result given exit.ensures.1 (inl c.in_err-text.ensures.stopped)

pub returns-in_err-program-clause-stopped : goal.returns-in_err-program-clause-stopped
returns-in_err-program-clause-stopped g c =
    let exit = c.from_residual-in_err-program in
    let given = c.in_err-program.field-0.0 in
    let cause = subst (λ t. OrMemory (RefusesText t) given) c.deref.ensures.value c.in_err-program.ensures.refusal in
    at_error _ exit.result given exit.ensures.1 (inr (c.in_ok-text.text.items, g.H.Shelf.seen c.load.new.shelf, c.in_ok-text.ensures.loaded, inl (cause, tt, refl)))

pub returns-in_err-set-clause-stopped : goal.returns-in_err-set-clause-stopped
returns-in_err-set-clause-stopped g c =
    let read = read_program c.deref.result.now c.in_ok-text.ensures.loaded c.deref.ensures.value c.in_ok-program.ensures.program in
    let exit = c.from_residual-in_err-set in
    let given = c.in_err-set.field-0.0 in
    at_error _ exit.result given exit.ensures.1
    (stopped_behind_program after_set (g.H.Shelf.seen c.load.new.shelf) given c.args.task.now read (inl (faulty read given c.in_err-set.ensures.refusal, tt, refl)))

pub returns-in_err-lines-clause-stopped : goal.returns-in_err-lines-clause-stopped
returns-in_err-lines-clause-stopped g c =
    let read = read_program c.deref.result.now c.in_ok-text.ensures.loaded c.deref.ensures.value c.in_ok-program.ensures.program in
    let exit = c.from_residual-in_err-lines in
    let given = c.in_err-lines.field-0.0 in
    at_error _ exit.result given exit.ensures.1
    (stopped_behind_set after_set (g.H.Shelf.seen c.load-2.new.shelf) given c.args.task.now read c.in_ok-set.ensures.free (inl c.in_err-lines.ensures.stopped))

pub returns-in_err-links-clause-stopped : goal.returns-in_err-links-clause-stopped
returns-in_err-links-clause-stopped g c =
    let read = read_program c.deref.result.now c.in_ok-text.ensures.loaded c.deref.ensures.value c.in_ok-program.ensures.program in
    let lines = read_lines read c.in_ok-set.ensures.free c.in_ok-lines.ensures.loaded in
    let set = plain_set c.in_ok-set.set in
    let set_is = c.in_ok-set.ensures.set in
    let text = c.deref-2.result.now in
    let same = c.deref-2.ensures.value in
    let exit = c.from_residual-in_err-links in
    let given = c.in_err-links.field-0.0 in
    at_error _ exit.result given exit.ensures.1 (stopped_at_links lines set set_is text same given c.args.task.now c.in_err-links.ensures.refusal)

pub returns-in_err-target-clause-stopped : goal.returns-in_err-target-clause-stopped
returns-in_err-target-clause-stopped g c =
    let read = read_program c.deref.result.now c.in_ok-text.ensures.loaded c.deref.ensures.value c.in_ok-program.ensures.program in
    let lines = read_lines read c.in_ok-set.ensures.free c.in_ok-lines.ensures.loaded in
    let set = plain_set c.in_ok-set.set in
    let set_is = c.in_ok-set.ensures.set in
    let text = c.deref-2.result.now in
    let same = c.deref-2.ensures.value in
    let exit = c.from_residual-in_err-target in
    let given = c.in_err-target.field-0.0 in
    at_error _ exit.result given exit.ensures.1
    (behind_links lines set set_is text same c.in_ok-links.ensures.read (g.H.Shelf.seen c.load-3.new.shelf) given c.args.task.now (inl c.in_err-target.ensures.stopped))

pub returns-in_err-costs-clause-stopped : goal.returns-in_err-costs-clause-stopped
returns-in_err-costs-clause-stopped g c =
    let read = read_program c.deref.result.now c.in_ok-text.ensures.loaded c.deref.ensures.value c.in_ok-program.ensures.program in
    let lines = read_lines read c.in_ok-set.ensures.free c.in_ok-lines.ensures.loaded in
    let set = plain_set c.in_ok-set.set in
    let set_is = c.in_ok-set.ensures.set in
    let text = c.deref-2.result.now in
    let same = c.deref-2.ensures.value in
    let exit = c.from_residual-in_err-costs in
    let given = c.in_err-costs.field-0.0 in
    at_error _ exit.result given exit.ensures.1
    (stopped_at_target lines set set_is text same c.in_ok-links.ensures.read c.in_ok-links.ensures.links c.in_ok-target.ensures.loaded c.deref-3.result.now c.deref-3.ensures.value given c.args.task.now c.in_err-costs.ensures.refusal)

pub returns-in_err-choice-clause-stopped : goal.returns-in_err-choice-clause-stopped
returns-in_err-choice-clause-stopped g c =
    let read = read_program c.deref.result.now c.in_ok-text.ensures.loaded c.deref.ensures.value c.in_ok-program.ensures.program in
    let lines = read_lines read c.in_ok-set.ensures.free c.in_ok-lines.ensures.loaded in
    let set = plain_set c.in_ok-set.set in
    let set_is = c.in_ok-set.ensures.set in
    let text = c.deref-2.result.now in
    let same = c.deref-2.ensures.value in
    let exit = c.from_residual-in_err-choice in
    let given = c.in_err-choice.field-0.0 in
    at_error _ exit.result given exit.ensures.1
    (stopped_at_choice lines set set_is text same c.in_ok-links.ensures.read c.in_ok-links.ensures.links c.in_ok-target.ensures.loaded c.deref-3.result.now c.deref-3.ensures.value c.in_ok-costs.ensures.gives
    given c.choose.new.task c.in_err-choice.ensures.refusal c.in_err-choice.ensures.named)

pub returns-in_err-values-clause-stopped : goal.returns-in_err-values-clause-stopped
returns-in_err-values-clause-stopped g c =
    let read = read_program c.deref.result.now c.in_ok-text.ensures.loaded c.deref.ensures.value c.in_ok-program.ensures.program in
    let lines = read_lines read c.in_ok-set.ensures.free c.in_ok-lines.ensures.loaded in
    let set = plain_set c.in_ok-set.set in
    let set_is = c.in_ok-set.ensures.set in
    let text = c.deref-2.result.now in
    let same = c.deref-2.ensures.value in
    let chosen : ChosenSet = record { set = c.in_ok-set.set; costs = c.in_ok-costs.costs; choice = c.in_ok-choice.choice } in
    let fit = c.in_ok-choice.ensures.fit in
    let best : IsBest (plain_choice chosen) = record {
      sound = c.in_ok-set.ensures.sound (text_is_checkable c.in_ok-program.ensures.program);
      costs = c.in_ok-costs.ensures.gives.ranges;
      chosen = c.in_ok-choice.ensures.chosen;
      hyper = fit.0;
      fit = fit.1;
    } in
    let exit = c.from_residual-in_err-values in
    let given = c.in_err-values.field-0.0 in
    at_error _ exit.result given exit.ensures.1
    (behind_choice lines set set_is text same c.in_ok-links.ensures.read c.in_ok-links.ensures.links c.in_ok-target.ensures.loaded c.deref-3.result.now c.deref-3.ensures.value c.in_ok-costs.ensures.gives
    (plain_choice chosen) refl refl best (g.H.Shelf.seen c.load-4.new.shelf) given c.choose.new.task (inl c.in_err-values.ensures.stopped))

pub returns-in_err-script-clause-stopped : goal.returns-in_err-script-clause-stopped
returns-in_err-script-clause-stopped g c =
    let read = read_program c.deref.result.now c.in_ok-text.ensures.loaded c.deref.ensures.value c.in_ok-program.ensures.program in
    let lines = read_lines read c.in_ok-set.ensures.free c.in_ok-lines.ensures.loaded in
    let set = plain_set c.in_ok-set.set in
    let set_is = c.in_ok-set.ensures.set in
    let text = c.deref-2.result.now in
    let same = c.deref-2.ensures.value in
    let chosen : ChosenSet = record { set = c.in_ok-set.set; costs = c.in_ok-costs.costs; choice = c.in_ok-choice.choice } in
    let fit = c.in_ok-choice.ensures.fit in
    let best : IsBest (plain_choice chosen) = record {
      sound = c.in_ok-set.ensures.sound (text_is_checkable c.in_ok-program.ensures.program);
      costs = c.in_ok-costs.ensures.gives.ranges;
      chosen = c.in_ok-choice.ensures.chosen;
      hyper = fit.0;
      fit = fit.1;
    } in
    let exit = c.from_residual-in_err-script in
    let given = c.in_err-script.field-0.0 in
    at_error _ exit.result given exit.ensures.1
    (stopped_at_script lines set set_is text same c.in_ok-links.ensures.read c.in_ok-links.ensures.links c.in_ok-target.ensures.loaded c.deref-3.result.now c.deref-3.ensures.value c.in_ok-costs.ensures.gives
    (plain_choice chosen) refl refl best c.in_ok-values.ensures.loaded c.deref-4.result.now c.deref-4.ensures.value given c.choose.new.task c.in_err-script.ensures.refusal)

pub returns-clause-passed : goal.returns-clause-passed
returns-clause-passed g c =
    let read = read_program c.deref.result.now c.in_ok-text.ensures.loaded c.deref.ensures.value c.in_ok-program.ensures.program in
    let lines = read_lines read c.in_ok-set.ensures.free c.in_ok-lines.ensures.loaded in
    let set = plain_set c.in_ok-set.set in
    let set_is = c.in_ok-set.ensures.set in
    let text = c.deref-2.result.now in
    let same = c.deref-2.ensures.value in
    let chosen : ChosenSet = record { set = c.in_ok-set.set; costs = c.in_ok-costs.costs; choice = c.in_ok-choice.choice } in
    let fit = c.in_ok-choice.ensures.fit in
    let best : IsBest (plain_choice chosen) = record {
      sound = c.in_ok-set.ensures.sound (text_is_checkable c.in_ok-program.ensures.program);
      costs = c.in_ok-costs.ensures.gives.ranges;
      chosen = c.in_ok-choice.ensures.chosen;
      hyper = fit.0;
      fit = fit.1;
    } in (
      with_script (map string_bytes c.args.words.now) c.in_ok-text.text.items c.in_ok-lines.lines.items c.in_ok-target.target.items c.in_ok-values.values.items,
      refl,
      passed_all lines set set_is text same c.in_ok-links.ensures.read c.in_ok-links.ensures.links c.in_ok-target.ensures.loaded c.deref-3.result.now c.deref-3.ensures.value c.in_ok-costs.ensures.gives (plain_choice chosen) refl refl best c.in_ok-values.ensures.loaded c.deref-4.result.now c.deref-4.ensures.value c.in_ok-script.ensures.streams,
      reads_all lines set set_is text same c.in_ok-links.ensures.read c.in_ok-links.ensures.links c.in_ok-target.ensures.loaded c.deref-3.result.now c.deref-3.ensures.value c.in_ok-costs.ensures.gives (plain_choice chosen) refl refl best c.in_ok-values.ensures.loaded c.deref-4.result.now c.deref-4.ensures.value c.in_ok-script.ensures.streams,
    )
