use Rattle.std.proofs.Common.{◌≡◌, length, map, drop}
use Rattle.tcel_link.specs.Feeds.{all_given, begun, carried}
use Rattle.tcel_link.proofs.Halves.{half}
use Rattle.tcel_link.proofs.feed.give_all.Given as goal

abbrev pub invariant-loop-feed : goal.invariant-loop-feed
invariant-loop-feed l =
    let links = map carried l.fn.feeds in
    record {
      feeds : map carried l.feeds ≡ half (begun l.number l.time) l.feed-index links;
      inputs : all_given l.number l.time (drop l.feed-index links) l.inputs ≡ all_given l.number l.time links l.fn.inputs;
      counted : length l.inputs ≡ length l.fn.inputs;
    }
