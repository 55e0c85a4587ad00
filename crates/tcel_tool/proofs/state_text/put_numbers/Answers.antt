use Rattle.std.proofs.Common.{◌-◌, ◌+◌, ◌<◌, pos, get_or, take, drop, arith}
use Rattle.std.proofs.lemmas.Result.{on_ok_weaker}
use Rattle.tcel_tool.proofs.StateTexts.{all_numbers, words_next}
use Rattle.tcel_tool.proofs.state_text.put_numbers.Goals as goal

pub returns : goal.returns
returns c =
    let cells = c.args.cells.now in
    let from = c.args.from in
    let to = c.args.to in
    let order : from < to = omega (arith, c.if-from-to.false) in
    let rest = take (to - (from + 1)) (drop (from + 1) cells) in
    let word = get_or cells from (pos 0) in
    let next = words_next cells from to order c.requires.within in
    on_ok_weaker c.put_more.result
    (λ last. all_numbers c.args.out.now.items c.put_word.new.out.items c.put_more.new.out.items (take (to - from) (drop from cells)) rest word next c.in_ok-put_word.ensures last)
    c.put_more.ensures
