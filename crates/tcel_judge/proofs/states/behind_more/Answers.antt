use Rattle.std.proofs.Common.{pos, get_or, sym, ap, ◌∙◌}
use Rattle.std.specs.Option.{option_copied}
use Rattle.tcel_judge.proofs.StateTexts.{comma_lost, number_lost, number_passed, words_next}
use Rattle.tcel_judge.proofs.states.behind_more.Goals as goal

pub returns-in_err-word : goal.returns-in_err-word
returns-in_err-word c =
    let cells = c.args.cells.now in
    let place = c.loop-place.place in
    let next = words_next cells place c.args.to c.loop-place-test.true c.requires.within in
    let lost = comma_lost _ _ (get_or cells place (pos 0)) next c.loop-place.rest.now (sym c.in_err-word.ensures) in
    ap option_copied c.from_residual.ensures ∙ sym lost ∙ c.loop-place.invariant

pub returns-in_err-rest : goal.returns-in_err-rest
returns-in_err-rest c =
    let cells = c.args.cells.now in
    let place = c.loop-place.place in
    let next = words_next cells place c.args.to c.loop-place-test.true c.requires.within in
    let lost = number_lost _ _ (get_or cells place (pos 0)) next c.loop-place.rest.now c.in_ok-word.word.now (sym c.in_ok-word.ensures) (sym c.in_err-rest.ensures) in
    ap option_copied c.from_residual-in_err-rest.ensures ∙ sym lost ∙ c.loop-place.invariant

pub loop-place-preserved : goal.loop-place-preserved
loop-place-preserved c =
    let cells = c.args.cells.now in
    let place = c.loop-place.place in
    let next = words_next cells place c.args.to c.loop-place-test.true c.requires.within in
    let passed = number_passed _ _ (get_or cells place (pos 0)) next c.loop-place.rest.now c.in_ok-word.word.now (sym c.in_ok-word.ensures) c.in_ok-rest.rest.now (sym c.in_ok-rest.ensures) in
    sym passed ∙ c.loop-place.invariant
