-- Which statements have code: their expressions fit the stack, and their holds fit an instruction's field.
use Rattle.std.specs.Prelude.{◌+◌, ◌<◌, ◌≤◌, ◌^◌, IfSome}
use Rattle.tcel_core.specs.Language.{Block, done, next, Stmt, item, choice, timed, Act, assign, assign_at, receive, send, for_loop, while_loop, copy}
use Rattle.tcel_code.specs.Compilable.{height}

abbrev mutual
  pub IsCodable : Block → Type 0
  IsCodable done = Unit {0}
  IsCodable (next s rest) = StmtIsCodable s × IsCodable rest

  pub StmtIsCodable : Stmt → Type 0
  StmtIsCodable (item id act) = ActIsCodable act
  StmtIsCodable (choice id test held other) = (height test ≤ 128) × IsCodable held × IsCodable other
  StmtIsCodable (timed id window body) = IfSome window.after (λ bound. bound < 2 ^ 32) × IsCodable body

  pub ActIsCodable : Act → Type 0
  ActIsCodable (assign v e) = height e ≤ 128
  ActIsCodable (assign_at v i e) = (height i ≤ 128) × (1 + height e ≤ 128)
  ActIsCodable (receive v port) = Unit {0}
  ActIsCodable (send e port) = height e ≤ 128
  ActIsCodable (for_loop v turns body) = IsCodable body
  ActIsCodable (while_loop test turns body) = (height test ≤ 128) × IsCodable body
  ActIsCodable (copy a b) = Unit {0}
