-- Statements over variables of other numbers, one after another.
use Rattle.std.proofs.Common.{rules, ◌≡◌, ℕ, List, [], ◌∷◌, map, refl, ap}
use Rattle.tcel_core.specs.declared.body.Body.{roll-Body}
use Rattle.tcel_core.specs.declared.body.Body.{the_lemmas as body_lemmas}
use Rattle.tcel_core.specs.declared.body.CoreStmt.{CoreStmt}
use Rattle.tcel_core.specs.declared.body.CoreStmt.{the_lemmas as stmt_lemmas}
use Rattle.tcel_core.specs.Language.{next}
use Rattle.tcel_core.specs.Parts.{renamed_block, renamed_stmt}
use Rattle.tcel_core.specs.Plain.{block_of, plain_body, plain_stmt}

pub renamed_all : (f : ℕ → ℕ) (xs : List CoreStmt) → block_of (map (λ x. renamed_stmt f (plain_stmt x)) xs) ≡ renamed_block f (block_of (map plain_stmt xs))
renamed_all f [] = refl
renamed_all f (x ∷ xs) = ap (next (renamed_stmt f (plain_stmt x))) (renamed_all f xs)

-- a body that code makes of a list
pub plain_body-roll : (xs : List CoreStmt) → plain_body (roll-Body (record { list = xs })) ≡ block_of (map plain_stmt xs)
plain_body-roll xs = search (rules, body_lemmas, stmt_lemmas)
