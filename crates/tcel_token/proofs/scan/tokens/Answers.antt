use Rattle.std.proofs.Common.{arith, drop, length-drop}
use Rattle.std.proofs.lemmas.List.{take_rest}
use Rattle.tcel_token.proofs.Scanning.{first_some, read_all, read_more, read_small}
use Rattle.tcel_token.proofs.Rising.{well_formed}
use Rattle.tcel_token.proofs.scan.tokens.Goals as goal

pub behind-at-requires-clause-columns : goal.behind-at-requires-clause-columns
behind-at-requires-clause-columns c =
    let text = c.args.text.now in
    let start = c.loop-start.start in
    let first = rw (take_rest text start) at c.in_ok-length.ensures.first in
    let small = read_small text start c.loop-start.at c.loop-start.list c.loop-start.invariant in
    let some = first_some (drop start text) c.in_ok-length.field-0 first in
    omega (arith, length-drop start text)

pub loop-start-preserved : goal.loop-start-preserved
loop-start-preserved c =
    let text = c.args.text.now in
    let start = c.loop-start.start in
    let first = rw (take_rest text start) at c.in_ok-length.ensures.first in
    let more = read_more text start c.loop-start.at c.loop-start.list c.in_ok-length.field-0 c.loop-start.invariant first in
    rw (c.in_ok-put_token.ensures, c.behind-at.ensures, take_rest text start) more

pub returns-clause-well_formed : goal.returns-clause-well_formed
returns-clause-well_formed c =
    let read = read_all c.args.text.now c.loop-start.start c.loop-start.at c.loop-start.list c.loop-start.invariant c.loop-start-test.false in
    well_formed c.args.text.now (record { list = c.loop-start.list; end = c.loop-start.at }) read
