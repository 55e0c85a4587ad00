-- The two bodies as lists of statements that grow.
use Rattle.std.specs.Prelude.{◌≡◌, ℕ, Bool, true, false, List, [], ◌∷◌, filter, map, slice_index_or, if◌then◌else◌}
use Rattle.std.specs.List.{list_any}
use Rattle.tcel_core.specs.declared.body.CoreStmt.{CoreStmt}
use Rattle.tcel_core.specs.Kinds.{Slicing, is_live}
use Rattle.tcel_core.specs.Language.{Expr, variable, Block, done, next, joined, Stmt, item, choice, assign}
use Rattle.tcel_core.specs.Numbering.{numbers_from}
use Rattle.tcel_core.specs.Parts.{copies, copy_of, first_of_block, first_of_stmt, number_of, renamed_expr, rest_of_block, rest_of_stmt, saved}
use Rattle.tcel_core.specs.Paths.{Point}
use Rattle.tcel_core.specs.Plain.{block_of, plain_stmt}
use Rattle.tcel_rename.specs.declared.numbers.Numbers.{Numbers}
use Rattle.tcel_rename.specs.declared.sets.Sets.{Sets}
use Rattle.tcel_rename.specs.Numbers.{AreNumbers}
use Rattle.tcel_rename.specs.Renaming.{number_in}
use Rattle.tcel_rename.specs.Splits.{AreSets}

-- the statements of a list
abbrev pub stmts_of : List CoreStmt → Block
stmts_of xs = block_of (map plain_stmt xs)

-- a list was extended by these statements
pub record Adds (old new : List CoreStmt) (b : Block) : Type 0 where
  pub added : stmts_of new ≡ joined (stmts_of old) b

-- what some of the first points pass, some of the second do
pub record AreWithin (ps qs : List Point) : Type 0 where
  pub passed : (such : Point → Bool) → list_any such ps ≡ true → list_any such qs ≡ true

-- what is saved behind an item, of the variables below a number, and restored
abbrev pub saves_below : Slicing → ℕ → ℕ → Block
saves_below s n upto = copies (map (λ v. (number_of s (copy_of v), number_of s (saved n v))) (filter (is_live s n) (numbers_from 0 upto)))

abbrev pub restores_below : Slicing → ℕ → ℕ → Block
restores_below s n upto = copies (map (λ v. (number_of s (saved n v), v)) (filter (is_live s n) (numbers_from 0 upto)))

-- sets and numbers by which a body is cut in two
pub record IsPlan (s : Slicing) (found : Sets) (table : Numbers) : Type 0 where
  pub sets : AreSets s found
  pub numbers : AreNumbers s table

-- a list has a statement
abbrev pub has_statement_in : List CoreStmt → Bool
has_statement_in [] = false
has_statement_in (x ∷ xs) = true

-- the two bodies of statements
pub record AreHalves (s : Slicing) (b : Block) (first rest : List CoreStmt) : Type 0 where
  pub first_is : stmts_of first ≡ first_of_block s b
  pub rest_is : stmts_of rest ≡ rest_of_block s b

-- what becomes of a statement was added
pub record AddHalves (s : Slicing) (t : Stmt) (first first' rest rest' : List CoreStmt) : Type 0 where
  pub to_first : Adds first first' (first_of_stmt s t)
  pub to_rest : Adds rest rest' (rest_of_stmt s t)

-- an `if` of the first part, by whether it is there and whether it is split, over variables of these numbers
abbrev pub first_choice : Numbers → ℕ → Expr → Bool → Bool → Block → Block → Block
first_choice numbers id test there split held other =
    let truth = slice_index_or numbers.truths id 0 in
    let renamed = renamed_expr (number_in numbers.inside) test in
    if there then (if split then next (item 0 (assign truth renamed)) (next (choice id (variable truth) held other) done) else next (choice id renamed held other) done) else done

-- an `if` of the rest
abbrev pub rest_choice : Numbers → ℕ → Expr → Bool → Bool → Block → Block → Block
rest_choice numbers id test there split held other =
    if there then next (choice id (if split then variable (slice_index_or numbers.truths id 0) else test) held other) done else done
