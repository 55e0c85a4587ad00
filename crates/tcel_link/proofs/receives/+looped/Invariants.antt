use Rattle.std.proofs.Common.{◌≡◌, map, drop}
use Rattle.tcel_core.specs.Plain.{block_of, plain_body, plain_stmt}
use Rattle.tcel_link.specs.Receives.{receives_in_loop}
use Rattle.tcel_link.proofs.receives.+looped.Given as goal

abbrev pub invariant-receives_in_loop-loop-stmt : goal.invariant-receives_in_loop-loop-stmt
invariant-receives_in_loop-loop-stmt l = receives_in_loop (block_of (map plain_stmt (drop l.stmt-index l.body.list))) l.input l.inside ≡ receives_in_loop (plain_body l.body) l.input l.inside
