-- The shape of a body: its items and tests in text order, with where each `if` opens, changes its branch and closes.
use Rattle.std.specs.Prelude.{◌≡◌, ℕ, ◌<◌, Bool, List, [], ◌∷◌, ◌++◌, length, take, drop}
use Rattle.tcel_core.specs.declared.row.Row.{Row}
use Rattle.tcel_core.specs.Contents.{act_has_event}
use Rattle.tcel_core.specs.Language.{Expr, Block, done, next, Stmt, item, choice, timed, Act}
use Rattle.tcel_core.specs.Rows.{stands_in}
use Rattle.tcel_core.specs.Uses.{act_reads, act_writes, expr_reads}
use Rattle.tcel_flow.specs.declared.step.Step.{Step}
use Rattle.tcel_flow.specs.declared.step.Step.TheVariants as steps

-- a step of a body's shape
pub data Place : Type 0 where
  at_item : ℕ → Act → Place
  opens : ℕ → Expr → Place
  changes : Place
  closes : Place

-- the steps of statements; a `do` gives those of its body
abbrev mutual
  pub places : Block → List Place
  places done = []
  places (next s rest) = stmt_places s ++ places rest

  pub stmt_places : Stmt → List Place
  stmt_places (item id act) = at_item id act ∷ []
  stmt_places (choice id test held other) = opens id test ∷ (places held ++ (changes ∷ (places other ++ (closes ∷ []))))
  stmt_places (timed id window body) = places body

-- the row has just these variables
abbrev pub IsRow : Row → (ℕ → Bool) → Type 0
IsRow row f = (v : ℕ) → v < 256 → stands_in row v ≡ f v

-- the code's step is this one: an item's number, what it reads and writes, and whether it has an event; a test's number and what it reads
abbrev pub IsStep : Step → Place → Type 0
IsStep (steps.Item id reads writes event) (at_item n act) = (id ≡ n) × IsRow reads (act_reads act) × IsRow writes (act_writes act) × (event ≡ act_has_event act)
IsStep (steps.Open id reads) (opens n test) = (id ≡ n) × IsRow reads (expr_reads test)
IsStep steps.Middle changes = Unit {0}
IsStep steps.Close closes = Unit {0}
IsStep _ _ = ⊥

-- the code's steps are these, one for each
abbrev pub AreSteps : List Step → List Place → Type 0
AreSteps [] [] = Unit {0}
AreSteps (s ∷ ss) (p ∷ ps) = IsStep s p × AreSteps ss ps
AreSteps _ _ = ⊥

-- a list was extended by these steps
pub record Extends (old new : List Step) (ps : List Place) : Type 0 where
  pub kept : take (length old) new ≡ old
  pub added : AreSteps (drop (length old) new) ps
