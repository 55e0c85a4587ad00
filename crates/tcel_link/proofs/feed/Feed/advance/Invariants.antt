use Rattle.std.proofs.Common.{◌≡◌, length}
use Rattle.tcel_link.specs.Feeds.{advanced, carried}
use Rattle.tcel_link.proofs.feed.Feed.advance.Given as goal

abbrev pub invariant-loop-self : goal.invariant-loop-self
invariant-loop-self l = advanced l.time (carried l.self) ≡ advanced l.time (carried l.fn.self)

abbrev pub decreases-loop-self : goal.decreases-loop-self
decreases-loop-self l = length l.self.pending.items
