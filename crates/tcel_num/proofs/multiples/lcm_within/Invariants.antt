use Rattle.std.proofs.Common.{take}
use Rattle.tcel_num.specs.Hyperperiod.{IsLeastCommonMultiple}
use Rattle.tcel_num.proofs.multiples.lcm_within.Given as goal

abbrev pub invariant-loop-period : goal.invariant-loop-period
invariant-loop-period l = IsLeastCommonMultiple (take l.period-index l.periods) l.multiple
