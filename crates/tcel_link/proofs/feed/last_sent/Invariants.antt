use Rattle.std.proofs.Common.{◌≡◌, drop, None}
use Rattle.tcel_link.specs.Feeds.{last_of}
use Rattle.tcel_link.specs.Linked.{sent}
use Rattle.tcel_link.proofs.feed.last_sent.Given as goal

abbrev pub invariant-loop-event : goal.invariant-loop-event
invariant-loop-event l = last_of l.last (sent l.output (drop l.event-index l.events)) ≡ last_of None (sent l.output l.events)
