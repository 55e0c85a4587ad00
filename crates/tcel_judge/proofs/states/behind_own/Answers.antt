use Rattle.std.proofs.Common.{◌++◌, drop, take, sym, ap, ◌∙◌}
use Rattle.std.specs.Prelude.{codes}
use Rattle.std.specs.Option.{option_copied}
use Rattle.tcel_code.specs.Layout.{kind_of}
use Rattle.tcel_core.specs.Cells.{words_of}
use Rattle.tcel_image.specs.TraceText.{value_text}
use Rattle.tcel_judge.specs.StateParts.{name_text}
use Rattle.tcel_judge.proofs.Fronts.{goes, stops}
use Rattle.tcel_judge.proofs.states.behind_own.Goals as goal

pub returns-in_err-sign-in-State : goal.returns-in_err-sign-in-State
returns-in_err-sign-in-State c =
    let v = c.args.var.now in
    let value = value_text (kind_of v.kind) (take (words_of v.kind) (drop c.args.place c.args.cells.now)) in
    let name = c.in_ok-name-in-State.name.now in
    rw c.in-State.is
    (ap option_copied c.from_residual-in_err-sign-in-State.ensures
    ∙ sym (goes (codes " ") (name_text v.name ++ (codes "=" ++ value)) c.args.text.now name (sym c.in_ok-name-in-State.ensures)
    ∙ stops (name_text v.name) (codes "=" ++ value) name (sym c.in_err-sign-in-State.ensures)))

pub returns-in_err-value-in-State : goal.returns-in_err-value-in-State
returns-in_err-value-in-State c =
    let v = c.args.var.now in
    let value = value_text (kind_of v.kind) (take (words_of v.kind) (drop c.args.place c.args.cells.now)) in
    let name = c.in_ok-name-in-State.name.now in
    let sign = c.in_ok-sign-in-State.sign.now in
    rw c.in-State.is
    (ap option_copied c.from_residual-in_err-value-in-State.ensures
    ∙ sym (goes (codes " ") (name_text v.name ++ (codes "=" ++ value)) c.args.text.now name (sym c.in_ok-name-in-State.ensures)
    ∙ goes (name_text v.name) (codes "=" ++ value) name sign (sym c.in_ok-sign-in-State.ensures)
    ∙ stops (codes "=") value sign (sym c.in_err-value-in-State.ensures)))

pub returns-in_ok-value-in-State : goal.returns-in_ok-value-in-State
returns-in_ok-value-in-State c =
    let v = c.args.var.now in
    let value = value_text (kind_of v.kind) (take (words_of v.kind) (drop c.args.place c.args.cells.now)) in
    let name = c.in_ok-name-in-State.name.now in
    let sign = c.in_ok-sign-in-State.sign.now in
    rw c.in-State.is
    (c.behind_value.ensures
    ∙ sym (goes (codes " ") (name_text v.name ++ (codes "=" ++ value)) c.args.text.now name (sym c.in_ok-name-in-State.ensures)
    ∙ goes (name_text v.name) (codes "=" ++ value) name sign (sym c.in_ok-sign-in-State.ensures)
    ∙ goes (codes "=") value sign c.in_ok-value-in-State.value.now (sym c.in_ok-value-in-State.ensures)))
