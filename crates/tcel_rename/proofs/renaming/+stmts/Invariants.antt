use Rattle.std.proofs.Common.{◌≡◌, map, take}
use Rattle.tcel_core.specs.Parts.{renamed_stmt}
use Rattle.tcel_core.specs.Plain.{plain_stmt}
use Rattle.tcel_rename.specs.Renaming.{number_in}
use Rattle.tcel_rename.proofs.renaming.+stmts.Given as goal

abbrev pub invariant-renamed_body-loop-stmt : goal.invariant-renamed_body-loop-stmt
invariant-renamed_body-loop-stmt l = map plain_stmt l.list ≡ map (λ x. renamed_stmt (number_in l.numbers) (plain_stmt x)) (take l.stmt-index l.body.list)
