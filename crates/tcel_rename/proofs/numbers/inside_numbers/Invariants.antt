use Rattle.std.proofs.Common.{◌≡◌, ◌≤◌, length, filter}
use Rattle.tcel_core.specs.Numbering.{numbers_from}
use Rattle.tcel_core.specs.Rows.{stands_in}
use Rattle.tcel_rename.specs.Numbers.{inside_numbers}
use Rattle.tcel_rename.proofs.numbers.inside_numbers.Given as goal

abbrev pub invariant-loop-v : goal.invariant-loop-v
invariant-loop-v l =
    record {
      few : l.copies ≤ l.v;
      counted : l.copies ≡ length (filter (stands_in l.third) (numbers_from 0 l.v));
      numbers : l.numbers ≡ inside_numbers (stands_in l.third) l.count l.v;
    }
