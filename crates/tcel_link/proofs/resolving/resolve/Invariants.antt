use Rattle.tcel_core.specs.Plain.{plain_set}
use Rattle.std.proofs.Common.{map}
use Rattle.tcel_link.specs.Feeds.{carried}
use Rattle.tcel_link.specs.Runs.{ticks_left}
use Rattle.tcel_link.proofs.Standing.{Stands}
use Rattle.tcel_link.proofs.resolving.resolve.Given as goal

abbrev pub invariant-loop-number : goal.invariant-loop-number
invariant-loop-number l = Stands (plain_set l.set) l.links l.fn.script l.ticks l.runs.items (map carried l.feeds.items)

abbrev pub decreases-loop-number : goal.decreases-loop-number
decreases-loop-number l = ticks_left l.ticks l.runs.items
