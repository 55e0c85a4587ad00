use Rattle.std.proofs.Common.{◌≡◌, ◌++◌, drop}
use Rattle.tcel_link.specs.Linked.{received}
use Rattle.tcel_link.proofs.feed.push_all_received.Given as goal

abbrev pub invariant-loop-event : goal.invariant-loop-event
invariant-loop-event l = l.values.items ++ received l.input (drop l.event-index l.events) ≡ l.fn.values.items ++ received l.input l.events
