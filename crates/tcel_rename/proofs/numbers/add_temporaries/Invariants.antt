use Rattle.std.proofs.Common.{◌≡◌, ◌++◌, map, filter}
use Rattle.tcel_core.specs.Numbering.{numbers_from}
use Rattle.tcel_core.specs.Parts.{kind_of}
use Rattle.tcel_core.specs.Rows.{stands_in}
use Rattle.tcel_rename.specs.Numbers.{temporary}
use Rattle.tcel_rename.proofs.numbers.add_temporaries.Given as goal

abbrev pub invariant-loop-i : goal.invariant-loop-i
invariant-loop-i l = l.vars ≡ l.initial.vars ++ map (λ v. temporary (kind_of l.own v)) (filter (stands_in l.row) (numbers_from 0 l.i))
