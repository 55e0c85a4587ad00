use Rattle.std.proofs.Common.{◌≡◌, ◌++◌, ◌-◌}
use Rattle.std.specs.List.{repeat}
use Rattle.tcel_make.proofs.writing.put_times.Given as goal

abbrev pub invariant-loop : goal.invariant-loop
invariant-loop l = l.text.items ++ repeat (l.count - l.counter) l.line ≡ l.fn.text.items ++ repeat l.count l.line
