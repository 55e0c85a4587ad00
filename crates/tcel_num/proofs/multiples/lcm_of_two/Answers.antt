use Rattle.std.proofs.Common.{ℕ, ◌*◌, ◌/◌, ◌<◌, arith}
use Rattle.std.proofs.Math.Nat.{div-lt_iff_lt-mul}
use Rattle.tcel_num.proofs.CommonMultiples.{divisor, two}
use Rattle.tcel_num.proofs.multiples.lcm_of_two.Goals as goal

pub nonzero_div-factor : goal.nonzero_div-factor
nonzero_div-factor c = (divisor c.args.a c.args.b c.gcd-divisor.result c.requires.first c.gcd-divisor.ensures).positive

pub returns-then-factor-limit-clause-value : goal.returns-then-factor-limit-clause-value
returns-then-factor-limit-clause-value c = two c.args.a c.args.b c.gcd-divisor.result c.requires.first c.requires.second c.gcd-divisor.ensures

pub returns-else-factor-limit-clause-above : goal.returns-else-factor-limit-clause-above
returns-else-factor-limit-clause-above c =
    let factor : ℕ = c.args.b / c.gcd-divisor.result in
    let above : c.args.limit < c.args.a * factor = let h = (div-lt_iff_lt-mul c.requires.first).0 c.if-factor-limit.false in omega arith in
    (c.args.a * factor, two c.args.a c.args.b c.gcd-divisor.result c.requires.first c.requires.second c.gcd-divisor.ensures, above)
