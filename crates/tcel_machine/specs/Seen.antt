-- What an entry shows, as the definition has it.
use Rattle.std.specs.Prelude.{ℤ, List}
use Rattle.tcel_num.specs.Entry.{What, receive, send, first, end}
use Rattle.tcel_machine.specs.declared.entry.What as declared
use Rattle.tcel_machine.specs.declared.entry.What.TheVariants as shown

-- what an entry shows, in a task whose states hold these words
abbrev pub seen : List ℤ → declared.What → What
seen state (shown.Receive port value) = receive port value
seen state (shown.Send port value) = send port value
seen state shown.First = first
seen state shown.End = end state
