use Rattle.tcel_num.proofs.Quotients.{quotient_kept}
use Rattle.tcel_num.proofs.arithmetic.div.Goals as goal

pub returns-else-b-eq0 : goal.returns-else-b-eq0
returns-else-b-eq0 c =
    quotient_kept c.args.a c.args.b c.wrapping_div.result c.ranges.a c.ranges.b (record { sfits = c.wrapping_div.type_inv }) c.if-b-eq0.false c.wrapping_div.ensures
