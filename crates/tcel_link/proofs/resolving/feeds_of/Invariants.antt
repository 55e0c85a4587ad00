use Rattle.std.proofs.Common.{◌≡◌, map, take}
use Rattle.tcel_core.specs.Plain.{plain_task}
use Rattle.tcel_link.specs.Feeds.{carried}
use Rattle.tcel_link.specs.Runs.{start_link}
use Rattle.tcel_link.proofs.resolving.feeds_of.Given as goal

abbrev pub invariant-loop-link : goal.invariant-loop-link
invariant-loop-link l = map carried l.feeds.items ≡ map (start_link (map plain_task l.tasks)) (take l.link-index l.links)
