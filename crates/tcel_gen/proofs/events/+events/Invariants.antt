use Rattle.std.proofs.Common.{◌≡◌, map, drop}
use Rattle.tcel_core.specs.Contents.{has_event}
use Rattle.tcel_core.specs.Plain.{block_of, plain_body, plain_stmt}
use Rattle.tcel_gen.proofs.events.+events.Given as goal

abbrev pub invariant-body_has_event-loop-stmt : goal.invariant-body_has_event-loop-stmt
invariant-body_has_event-loop-stmt l = has_event (block_of (map plain_stmt (drop l.stmt-index l.body.list))) ≡ has_event (plain_body l.body)
