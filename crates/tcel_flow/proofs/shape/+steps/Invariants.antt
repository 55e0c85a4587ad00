use Rattle.std.proofs.Common.{map, take}
use Rattle.tcel_core.specs.Plain.{block_of, plain_stmt}
use Rattle.tcel_flow.specs.Shape.{Extends, places}
use Rattle.tcel_flow.proofs.shape.+steps.Given as goal

abbrev pub invariant-push_body-loop-stmt : goal.invariant-push_body-loop-stmt
invariant-push_body-loop-stmt l = Extends l.initial.shape l.shape (places (block_of (map plain_stmt (take l.stmt-index l.body.list))))
