use Rattle.std.proofs.Common.{◌∙◌, ◌≤◌, ap, inl, inr, refl, subst, sym}
use Rattle.std.specs.Prelude.{map, string_bytes}
use Rattle.tcel_core.specs.Plain.{plain_set}
use Rattle.tcel_make.specs.Script.{script_text}
use Rattle.tcel_target.proofs.Keys.{unit_in_range}
use Rattle.tcel_target.specs.Costs.{CostsInRange}
use Rattle.tcel_target.specs.declared.costs.Costs.{Costs}
use Rattle.tcel_tool.specs.Answer.{OrMemory}
use Rattle.tcel_tool.specs.Chosen.{plain_choice}
use Rattle.tcel_tool.specs.ProgramText.{RefusesText}
use Rattle.tcel_tool.specs.SetChoice.{IsBest, RefusesSet}
use Rattle.tcel_tool.specs.declared.choice.ChosenSet.{ChosenSet}
use Rattle.tcel_tool.specs.declared.status.Status.TheVariants as statuses
use Rattle.tcel_tool.proofs.Checkable.{text_is_checkable}
use Rattle.tcel_tool.proofs.ChoiceStages.{at_error}
use Rattle.tcel_tool.proofs.Forms.{some_are_tried}
use Rattle.tcel_tool.proofs.TrialStages.{AreBounded, behind_bounds, behind_choice, behind_program, faulty, has_program, made_program, own_streams, passed_all, stopped_at_choice, stopped_at_script, unit_choice, with_script}
use Rattle.tcel_tool.proofs.trial.prepare.Goals as goal

pub choose-requires-clause-sound : goal.choose-requires-clause-sound
choose-requires-clause-sound c = c.in_ok-set.ensures.sound (text_is_checkable c.in_ok-program.ensures.program)

pub choose-requires-clause-costs : goal.choose-requires-clause-costs
choose-requires-clause-costs c = subst CostsInRange (sym c.unit-costs.ensures) unit_in_range

pub make_script-requires-clause-some : goal.make_script-requires-clause-some
make_script-requires-clause-some c = subst (λ n. 1 ≤ n) (sym c.in_ok-tasks.ensures.value) (some_are_tried (map string_bytes c.args.words.now) c.requires)

pub script_of-requires-clause-sound : goal.script_of-requires-clause-sound
script_of-requires-clause-sound c = c.in_ok-set.ensures.sound (text_is_checkable c.in_ok-program.ensures.program)

pub returns-in_err-tasks-clause-stopped : goal.returns-in_err-tasks-clause-stopped
returns-in_err-tasks-clause-stopped c =
    let exit = c.from_residual in
    at_error _ exit.result c.in_err-tasks.field-0.0 exit.ensures.1 (λ shelf. inl (c.in_err-tasks.ensures.above, refl))

pub returns-in_err-ticks-clause-stopped : goal.returns-in_err-ticks-clause-stopped
returns-in_err-ticks-clause-stopped c =
    let exit = c.from_residual-in_err-ticks in
    at_error _ exit.result c.in_err-ticks.field-0.0 exit.ensures.1 (λ shelf. inr (c.in_ok-tasks.ensures.few, inl (c.in_err-ticks.ensures.above, refl)))

pub returns-in_err-text-clause-stopped : goal.returns-in_err-text-clause-stopped
returns-in_err-text-clause-stopped c =
    let words = map string_bytes c.args.words.now in
    let bounded : AreBounded words = record { few = c.in_ok-tasks.ensures.few; short = c.in_ok-ticks.ensures.few } in
    let exit = c.from_residual-in_err-text in
    at_error _ exit.result statuses.NoMemory exit.ensures.1 (λ shelf. behind_bounds shelf statuses.NoMemory c.args.task.now bounded (inl (refl, refl)))

pub returns-in_err-program-clause-stopped : goal.returns-in_err-program-clause-stopped
returns-in_err-program-clause-stopped c =
    let words = map string_bytes c.args.words.now in
    let bounded : AreBounded words = record { few = c.in_ok-tasks.ensures.few; short = c.in_ok-ticks.ensures.few } in
    let given = c.deref.result.now in
    let same = made_program words c.number_at.result c.in_ok-tasks.tasks c.in_ok-text.text.items given c.deref.ensures.value c.in_ok-text.ensures.text c.number_at.ensures c.in_ok-tasks.ensures.value in
    let exit = c.from_residual-in_err-program in
    let status = c.in_err-program.field-0.0 in
    let cause = subst (λ t. OrMemory (RefusesText t) status) same c.in_err-program.ensures.refusal in
    at_error _ exit.result status exit.ensures.1 (λ shelf. behind_bounds shelf status c.args.task.now bounded (inr (inl (cause, tt, refl))))

pub returns-in_err-set-clause-stopped : goal.returns-in_err-set-clause-stopped
returns-in_err-set-clause-stopped c =
    let words = map string_bytes c.args.words.now in
    let bounded : AreBounded words = record { few = c.in_ok-tasks.ensures.few; short = c.in_ok-ticks.ensures.few } in
    let given = c.deref.result.now in
    let same = made_program words c.number_at.result c.in_ok-tasks.tasks c.in_ok-text.text.items given c.deref.ensures.value c.in_ok-text.ensures.text c.number_at.ensures c.in_ok-tasks.ensures.value in
    let made = has_program bounded given same c.in_ok-program.ensures.program in
    let exit = c.from_residual-in_err-set in
    let status = c.in_err-set.field-0.0 in
    at_error _ exit.result status exit.ensures.1
    (λ shelf. behind_program shelf status c.args.task.now made (inl (faulty made status c.in_err-set.ensures.refusal, tt, refl)))

pub returns-in_err-choice-clause-stopped : goal.returns-in_err-choice-clause-stopped
returns-in_err-choice-clause-stopped c =
    let words = map string_bytes c.args.words.now in
    let bounded : AreBounded words = record { few = c.in_ok-tasks.ensures.few; short = c.in_ok-ticks.ensures.few } in
    let given = c.deref.result.now in
    let same = made_program words c.number_at.result c.in_ok-tasks.tasks c.in_ok-text.text.items given c.deref.ensures.value c.in_ok-text.ensures.text c.number_at.ensures c.in_ok-tasks.ensures.value in
    let made = has_program bounded given same c.in_ok-program.ensures.program in
    let free = c.in_ok-set.ensures.free in
    let set = plain_set c.in_ok-set.set in
    let set_is = c.in_ok-set.ensures.set in
    let exit = c.from_residual-in_err-choice in
    let status = c.in_err-choice.field-0.0 in
    let refusal = subst (λ (k : Costs). OrMemory (RefusesSet set k) status) c.unit-costs.ensures c.in_err-choice.ensures.refusal in
    at_error _ exit.result status exit.ensures.1
    (λ shelf. stopped_at_choice made free set set_is shelf status c.choose.new.task refusal c.in_err-choice.ensures.named)

pub returns-in_err-lines-clause-stopped : goal.returns-in_err-lines-clause-stopped
returns-in_err-lines-clause-stopped c =
    let words = map string_bytes c.args.words.now in
    let bounded : AreBounded words = record { few = c.in_ok-tasks.ensures.few; short = c.in_ok-ticks.ensures.few } in
    let given = c.deref.result.now in
    let same = made_program words c.number_at.result c.in_ok-tasks.tasks c.in_ok-text.text.items given c.deref.ensures.value c.in_ok-text.ensures.text c.number_at.ensures c.in_ok-tasks.ensures.value in
    let made = has_program bounded given same c.in_ok-program.ensures.program in
    let free = c.in_ok-set.ensures.free in
    let set = plain_set c.in_ok-set.set in
    let set_is = c.in_ok-set.ensures.set in
    let chosen : ChosenSet = record { set = c.in_ok-set.set; costs = c.unit-costs.result; choice = c.in_ok-choice.choice } in
    let fit = c.in_ok-choice.ensures.fit in
    let best : IsBest (plain_choice chosen) = record {
      sound = c.in_ok-set.ensures.sound (text_is_checkable c.in_ok-program.ensures.program);
      costs = subst CostsInRange (sym c.unit-costs.ensures) unit_in_range;
      chosen = c.in_ok-choice.ensures.chosen;
      hyper = fit.0;
      fit = fit.1;
    } in
    let exit = c.from_residual-in_err-lines in
    at_error _ exit.result statuses.NoMemory exit.ensures.1
    (λ shelf. behind_choice made free set set_is (plain_choice chosen) refl c.unit-costs.ensures best shelf statuses.NoMemory c.choose.new.task (inl (refl, refl)))

pub returns-in_err-script-clause-stopped : goal.returns-in_err-script-clause-stopped
returns-in_err-script-clause-stopped c =
    let words = map string_bytes c.args.words.now in
    let bounded : AreBounded words = record { few = c.in_ok-tasks.ensures.few; short = c.in_ok-ticks.ensures.few } in
    let given = c.deref.result.now in
    let same = made_program words c.number_at.result c.in_ok-tasks.tasks c.in_ok-text.text.items given c.deref.ensures.value c.in_ok-text.ensures.text c.number_at.ensures c.in_ok-tasks.ensures.value in
    let made = has_program bounded given same c.in_ok-program.ensures.program in
    let free = c.in_ok-set.ensures.free in
    let set = plain_set c.in_ok-set.set in
    let set_is = c.in_ok-set.ensures.set in
    let chosen : ChosenSet = record { set = c.in_ok-set.set; costs = c.unit-costs.result; choice = c.in_ok-choice.choice } in
    let fit = c.in_ok-choice.ensures.fit in
    let best : IsBest (plain_choice chosen) = record {
      sound = c.in_ok-set.ensures.sound (text_is_checkable c.in_ok-program.ensures.program);
      costs = subst CostsInRange (sym c.unit-costs.ensures) unit_in_range;
      chosen = c.in_ok-choice.ensures.chosen;
      hyper = fit.0;
      fit = fit.1;
    } in
    let exit = c.from_residual-in_err-script in
    let status = c.in_err-script.field-0.0 in
    let bytes = c.deref-2.result.now in
    let bytes_are = c.deref-2.ensures.value ∙ c.in_ok-lines.ensures.text ∙ ap script_text c.in_ok-tasks.ensures.value in
    at_error _ exit.result status exit.ensures.1
    (λ shelf. stopped_at_script made free set set_is (plain_choice chosen) refl c.unit-costs.ensures best bytes bytes_are shelf status c.choose.new.task c.in_err-script.ensures.refusal)

pub returns-clause-passed : goal.returns-clause-passed
returns-clause-passed c =
    let words = map string_bytes c.args.words.now in
    let bounded : AreBounded words = record { few = c.in_ok-tasks.ensures.few; short = c.in_ok-ticks.ensures.few } in
    let given = c.deref.result.now in
    let same = made_program words c.number_at.result c.in_ok-tasks.tasks c.in_ok-text.text.items given c.deref.ensures.value c.in_ok-text.ensures.text c.number_at.ensures c.in_ok-tasks.ensures.value in
    let made = has_program bounded given same c.in_ok-program.ensures.program in
    let free = c.in_ok-set.ensures.free in
    let set = plain_set c.in_ok-set.set in
    let set_is = c.in_ok-set.ensures.set in
    let chosen : ChosenSet = record { set = c.in_ok-set.set; costs = c.unit-costs.result; choice = c.in_ok-choice.choice } in
    let fit = c.in_ok-choice.ensures.fit in
    let best : IsBest (plain_choice chosen) = record {
      sound = c.in_ok-set.ensures.sound (text_is_checkable c.in_ok-program.ensures.program);
      costs = subst CostsInRange (sym c.unit-costs.ensures) unit_in_range;
      chosen = c.in_ok-choice.ensures.chosen;
      hyper = fit.0;
      fit = fit.1;
    } in
    let bytes = c.deref-2.result.now in
    let bytes_are = c.deref-2.ensures.value ∙ c.in_ok-lines.ensures.text ∙ ap script_text c.in_ok-tasks.ensures.value in
    let streams = c.in_ok-script.script in
    let streams_are = c.in_ok-script.ensures.streams in
    let plain = plain_choice chosen in
    let passed = passed_all made free set set_is plain refl c.unit-costs.ensures best bytes bytes_are streams streams_are in
    let for = unit_choice made free set set_is plain refl c.unit-costs.ensures best in
    (with_script words, refl, passed, for, own_streams made free set set_is plain refl c.unit-costs.ensures best bytes bytes_are streams streams_are)
