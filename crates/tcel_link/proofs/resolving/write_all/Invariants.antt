use Rattle.std.proofs.Common.{◌≡◌, length, map, drop}
use Rattle.tcel_link.specs.Feeds.{all_written, carried}
use Rattle.tcel_link.proofs.resolving.write_all.Given as goal

abbrev pub invariant-loop-feed : goal.invariant-loop-feed
invariant-loop-feed l = record {
  script : all_written (drop l.feed-index (map carried l.feeds)) l.script ≡ all_written (map carried l.feeds) l.fn.script;
  shape : map length l.script ≡ map length l.fn.script;
}
