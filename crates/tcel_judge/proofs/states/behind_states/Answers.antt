use Rattle.std.proofs.Common.{◌+◌, ℤ, List, drop, sym, ap, ◌∙◌, arith}
use Rattle.std.specs.Option.{option_copied}
use Rattle.std.proofs.lemmas.List.{drop-drop}
use Rattle.tcel_code.specs.Layout.{states_of}
use Rattle.tcel_image.specs.TraceText.{states_text}
use Rattle.tcel_judge.specs.StateParts.{own_words}
use Rattle.tcel_judge.proofs.StateTexts.{variable_lost, variable_passed, words_left}
use Rattle.tcel_trace.specs.Reading.{behind}
use Rattle.tcel_judge.proofs.states.behind_states.Goals as goal

pub returns-in_err-rest : goal.returns-in_err-rest
returns-in_err-rest c =
    let words = drop c.loop-var.place c.args.cells.now in
    let lost = variable_lost c.args.vars.now c.loop-var.var-index c.var-item.result words c.loop-var.rest.now c.loop-var-test.true c.var-item.is (sym c.in_err-rest.ensures) in
    ap option_copied c.from_residual.ensures ∙ sym lost ∙ c.loop-var.invariant.text

pub loop-var-preserved : goal.loop-var-preserved
loop-var-preserved c =
    let i = c.loop-var.var-index in
    let place = c.loop-var.place in
    let cells = c.args.cells.now in
    let passed = variable_passed c.args.vars.now i c.var-item.result (drop place cells) c.loop-var.rest.now c.in_ok-rest.rest.now c.loop-var-test.true c.var-item.is (sym c.in_ok-rest.ensures) in
    let others = λ (ws : List ℤ). behind (states_text (states_of (drop (i + 1) c.args.vars.now)) ws) c.in_ok-rest.rest.now in
    let own = c.own_words-place.ensures in
    let left = words_left c.args.vars.now i c.var-item.result c.loop-var-test.true c.var-item.is in
    record {
      text = ap (λ n. others (drop (place + n) cells)) own ∙ ap others (sym (drop-drop (own_words c.var-item.result) place cells)) ∙ sym passed ∙ c.loop-var.invariant.text;
      places = omega (arith, own, left, c.loop-var.invariant.places);
    }
