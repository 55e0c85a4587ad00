use Rattle.std.proofs.Common.{◌-◌, ◌+◌, pos, ◌++◌, get_or, take, drop}
use Rattle.tcel_trace.specs.Pieces.{more_numbers}
use Rattle.tcel_tool.proofs.StateTexts.{one_number, words_next}
use Rattle.tcel_tool.proofs.state_text.put_more.Goals as goal

pub loop-place-preserved : goal.loop-place-preserved
loop-place-preserved c =
    let cells = c.args.cells.now in
    let place = c.loop-place.place in
    let to = c.args.to in
    let all = c.args.out.now.items ++ more_numbers (take (to - c.args.from) (drop c.args.from cells)) in
    let rest = take (to - (place + 1)) (drop (place + 1) cells) in
    let word = get_or cells place (pos 0) in
    let next = words_next cells place to c.loop-place-test.true c.requires.within in
    one_number c.loop-place.out.items c.put.new.out.items c.put_word.new.out.items all (take (to - place) (drop place cells)) rest word next c.in_ok-put.ensures c.in_ok-put_word.ensures c.loop-place.invariant
