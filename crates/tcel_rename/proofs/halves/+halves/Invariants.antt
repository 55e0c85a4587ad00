use Rattle.std.proofs.Common.{List, take}
use Rattle.tcel_core.specs.declared.var.Var.{Var}
use Rattle.tcel_core.specs.Language.{Block}
use Rattle.tcel_core.specs.Paths.{points}
use Rattle.tcel_core.specs.Plain.{plain_body}
use Rattle.tcel_rename.specs.Halves.{AreHalves, AreWithin, IsPlan, stmts_of}
use Rattle.tcel_rename.specs.Sets.{by_list}
use Rattle.tcel_rename.proofs.halves.+halves.Given as goal

abbrev pub invariant-halve_body-loop-stmt : goal.invariant-halve_body-loop-stmt
invariant-halve_body-loop-stmt l =
    (vars : List Var) (whole : Block) → IsPlan (by_list vars whole l.kept.list) l.sets l.numbers → AreWithin (points (plain_body l.body)) (points whole) →
    AreHalves (by_list vars whole l.kept.list) (stmts_of (take l.stmt-index l.body.list)) l.first l.rest
