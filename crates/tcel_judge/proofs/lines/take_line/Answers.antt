use Rattle.std.proofs.Common.{◌≡◌, ◌∙◌, Some, get_or, sym, ap, arith}
use Rattle.std.specs.Prelude.{position}
use Rattle.std.proofs.lemmas.List.Elements.{All-get_or}
use Rattle.std.proofs.lemmas.List.Quantifiers.{position-Some}
use Rattle.tcel_judge.specs.declared.course.Course.{Course}
use Rattle.tcel_judge.specs.Courses.{HasTaken, judged}
use Rattle.tcel_judge.proofs.TakenLines.{as_entry, frames_few, is_named, taken_next, unknown}
use Rattle.tcel_judge.proofs.lines.take_line.Goals as goal
use Rattle.tcel_judge.proofs.lines.take_line.Goals.{In-Some}

-- where the task with the line's name stands
found : (c : In-Some) → position (λ (k : Course). is_named c.args.line.now.task (judged k)) c.args.courses.now ≡ Some c.in-Some.place
found c =
    ap (λ name. position (λ (k : Course). is_named name (judged k)) c.args.courses.now) (sym c.bytes.ensures.value) ∙ sym c.place_of.ensures ∙ c.in-Some.is

pub returns-in_default-clause-breach : goal.returns-in_default-clause-breach
returns-in_default-clause-breach c =
    let cs = c.args.courses.now in
    let line = c.args.line.now in
    let none = ap (λ name. position (λ (k : Course). is_named name (judged k)) cs) (sym c.bytes.ensures.value) ∙ sym c.place_of.ensures ∙ c.in_default.is in
    sym (unknown cs c.args.earlier.now line c.number_behind-number.result c.number_behind-number.ensures.value (sym c.if-is_disordered.ensures) none)

pub pass-requires-clause-frame : goal.pass-requires-clause-frame
pass-requires-clause-frame c =
    let cs = c.args.courses.now in
    let place = c.in-Some.place in
    let d = c.index-courses-place.result in
    let at = position-Some (λ (k : Course). is_named c.args.line.now.task (judged k)) cs place d (found (goal.at.pass-requires-clause-frame c).In-Some) in
    let here = All-get_or (HasTaken c.args.earlier.now) cs place d at.0 c.requires.taken.each in
    omega (arith, frames_few (get_or cs place d) c.args.earlier.now here, c.number_behind-number.ensures.value, c.number_behind-number.ensures.few)

pub returns-in_ok-pass-clause-breach : goal.returns-in_ok-pass-clause-breach
returns-in_ok-pass-clause-breach c =
    c.breach_of-breach.ensures
    ∙ as_entry c.args.courses.now c.args.earlier.now c.args.line.now c.number_behind-number.result c.number_behind-number.ensures.value c.in-Some.place c.index-courses-place.result (sym c.if-is_disordered.ensures)
    (found (goal.at.returns-in_ok-pass-clause-breach c).In-Some) c.requires.taken.each

pub returns-in_ok-pass-clause-taken : goal.returns-in_ok-pass-clause-taken
returns-in_ok-pass-clause-taken c none =
    taken_next c.args.courses.now c.requires.names c.args.earlier.now c.args.line.now c.in-Some.place c.index-courses-place.result c.pass.new.self
    (found (goal.at.returns-in_ok-pass-clause-taken c).In-Some) c.requires.taken c.in_ok-pass.ensures.stands c.in_ok-pass.ensures.judged c.in_ok-pass.ensures.place

pub returns-else-is_none-clause-breach : goal.returns-else-is_none-clause-breach
returns-else-is_none-clause-breach c =
    c.breach_of-breach.ensures
    ∙ as_entry c.args.courses.now c.args.earlier.now c.args.line.now c.number_behind-number.result c.number_behind-number.ensures.value c.in-Some.place c.index-courses-place.result (sym c.if-is_disordered.ensures)
    (found (goal.at.returns-else-is_none-clause-breach c).In-Some) c.requires.taken.each
