use Rattle.std.proofs.Common.{◌∙◌, map, sym, arith}
use Rattle.tcel_judge.specs.Courses.{judged}
use Rattle.tcel_judge.proofs.TakenLines.{all_passed, breach_there, first_found, not_found, one_passed, taken_along}
use Rattle.tcel_judge.proofs.lines.first_breach.Goals as goal

pub returns-then-is_some-clause-breach : goal.returns-then-is_some-clause-breach
returns-then-is_some-clause-breach c =
    let set = map judged c.args.courses.now in
    let lines = c.args.lines.now in
    let i = c.loop-number.number in
    let there = c.in_ok-breach.ensures.breach
    ∙ breach_there set lines c.loop-number.courses i c.index-lines-number.result c.loop-number.invariant.taken.judged c.loop-number-test.true c.index-lines-number.is in
    first_found set lines i c.in_ok-breach.breach (sym c.if-is_some.ensures) there c.loop-number.invariant.passed

pub loop-number-preserved : goal.loop-number-preserved
loop-number-preserved c =
    let set = map judged c.args.courses.now in
    let lines = c.args.lines.now in
    let i = c.loop-number.number in
    let cs = c.loop-number.courses in
    let line = c.index-lines-number.result in
    let same = c.loop-number.invariant.taken.judged in
    let none = not_found c.in_ok-breach.breach (sym c.if-is_some.ensures) in
    let there = sym (breach_there set lines cs i line same c.loop-number-test.true c.index-lines-number.is) ∙ sym c.in_ok-breach.ensures.breach ∙ none in
    record {
      taken = taken_along set lines cs c.take_line.new.courses i line same c.loop-number-test.true c.index-lines-number.is (c.in_ok-breach.ensures.taken none);
      passed = one_passed set lines i there c.loop-number.invariant.passed;
    }

pub returns-clause-breach : goal.returns-clause-breach
returns-clause-breach c =
    all_passed (map judged c.args.courses.now) c.args.lines.now c.loop-number.number (omega (arith, c.loop-number-test.false)) c.loop-number.invariant.passed
