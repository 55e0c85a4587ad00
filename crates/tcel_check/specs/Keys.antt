-- The numbered names that the code keeps.
use Rattle.std.specs.Prelude.{ℕ, List}
use Rattle.tcel_check.specs.declared.numbers.Numbers.{Numbers}
use Rattle.tcel_check.specs.declared.numbers.TaskNumbers.{TaskNumbers}
use Rattle.tcel_check.specs.declared.next.Next.{Next}
use Rattle.tcel_check.specs.declared.next.Next.TheVariants.{Outside, InLoop}
use Rattle.tcel_check.specs.Checked as checked
use Rattle.tcel_check.specs.Checked.{Numbered}

abbrev pub keys : Numbers → List (List ℕ)
keys numbers = numbers.names.keys

abbrev pub numbered_in : TaskNumbers → Numbered
numbered_in numbers = record { vars = keys numbers.vars; inputs = keys numbers.inputs; outputs = keys numbers.outputs }

abbrev pub next_in : Next → checked.Numbers
next_in (Outside item test window) = checked.outside item test window
next_in InLoop = checked.in_loop
