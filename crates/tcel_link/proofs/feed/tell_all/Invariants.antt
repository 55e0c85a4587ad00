use Rattle.std.proofs.Common.{◌≡◌, map}
use Rattle.tcel_link.specs.Feeds.{carried, ended}
use Rattle.tcel_link.proofs.Halves.{half}
use Rattle.tcel_link.proofs.feed.tell_all.Given as goal

abbrev pub invariant-loop-feed : goal.invariant-loop-feed
invariant-loop-feed l = map carried l.feeds ≡ half (ended l.number l.time l.due l.events) l.feed-index (map carried l.fn.feeds)
