use Rattle.std.proofs.Common.{◌<◌, pos, get_or, sym, ap, ◌∙◌, arith}
use Rattle.std.specs.Option.{option_copied}
use Rattle.tcel_judge.proofs.StateTexts.{first_number_lost, first_number_passed, words_next}
use Rattle.tcel_judge.proofs.states.behind_numbers.Goals as goal

pub returns-in_err-more : goal.returns-in_err-more
returns-in_err-more c =
    let order : c.args.from < c.args.to = omega (arith, c.if-from-to.false) in
    let next = words_next c.args.cells.now c.args.from c.args.to order c.requires.within in
    ap option_copied c.from_residual.ensures ∙ sym (first_number_lost _ _ (get_or c.args.cells.now c.args.from (pos 0)) next c.args.text.now (sym c.in_err-more.ensures))

pub returns : goal.returns
returns c =
    let order : c.args.from < c.args.to = omega (arith, c.if-from-to.false) in
    let next = words_next c.args.cells.now c.args.from c.args.to order c.requires.within in
    c.behind_more.ensures
    ∙ sym (first_number_passed _ _ (get_or c.args.cells.now c.args.from (pos 0)) next c.args.text.now c.in_ok-more.more.now (sym c.in_ok-more.ensures))
