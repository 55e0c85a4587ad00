use Rattle.std.proofs.Common.{◌≡◌, filter}
use Rattle.tcel_core.specs.Numbering.{numbers_from}
use Rattle.tcel_core.specs.Rows.{stands_in}
use Rattle.tcel_core.proofs.uses.variables_in.Given as goal

abbrev pub invariant-loop-var : goal.invariant-loop-var
invariant-loop-var l = l.list.items ≡ filter (stands_in l.row) (numbers_from 0 l.var)
