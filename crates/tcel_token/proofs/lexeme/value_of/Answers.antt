use Rattle.std.proofs.Common.{◌+◌, arith, sym}
use Rattle.tcel_token.proofs.Values.{value_more, too_large}
use Rattle.tcel_token.proofs.lexeme.value_of.Goals as goal

pub returns-in_default : goal.returns-in_default
returns-in_default c =
    let more = value_more c.args.digits.now c.loop-digit.digit-index c.loop-digit-test.true c.requires in
    sym (too_large c.args.digits.now (c.loop-digit.digit-index + 1) (omega (arith, c.in_default.ensures)))

pub loop-digit-preserved : goal.loop-digit-preserved
loop-digit-preserved c =
    let more = value_more c.args.digits.now c.loop-digit.digit-index c.loop-digit-test.true c.requires in
    omega (arith, c.in-Some.ensures)
