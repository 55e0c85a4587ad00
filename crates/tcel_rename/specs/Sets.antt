-- What walks from a body's end find of its variables and items, as rows of variables.
use Rattle.std.specs.Prelude.{◌≡◌, ℕ, ◌<◌, Bool, false, not, ◌||◌, ◌&&◌, List, [], ◌∷◌, slice_index_or, if◌then◌else◌}
use Rattle.std.specs.List.{list_any}
use Rattle.tcel_core.specs.declared.var.Var.{Var}
use Rattle.tcel_core.specs.Kinds.{Slicing, is_kept_item, reads_inside, reads_outside, writes_inside, writes_outside}
use Rattle.tcel_core.specs.Language.{Block, Stmt}
use Rattle.tcel_core.specs.Paths.{Point, points, stmt_points}
use Rattle.tcel_core.specs.Rows.{stands_in}
use Rattle.tcel_parts.specs.Rows.{row, stmt_row}
use Rattle.tcel_rename.specs.declared.kinds.Found.{Found}

-- a body with its variables, and the items that a list has
abbrev pub by_list : List Var → Block → List Bool → Slicing
by_list vars body list = record { vars = vars; body = body; kept = λ n. slice_index_or list n false }

-- some such point stands behind one that is here, in the text
abbrev pub late : (Point → Bool) → (Point → Bool) → List Point → Bool → Bool
late here such [] end = false
late here such (p ∷ ps) end = (here p && (list_any such ps || end)) || late here such ps end

-- what is found before points, of which the paths are such
pub record Finds (s : Slicing) (ps : List Point) (paths : ℕ → Bool → Bool) (before after : Found) : Type 0 where
  -- the first part reads it before it writes it
  pub fetched : (v : ℕ) → v < 256 → stands_in after.fetched v ≡ paths v (stands_in before.fetched v)
  -- an item outside the kept set writes it
  pub outside : (v : ℕ) → v < 256 → stands_in after.outside v ≡ (list_any (writes_outside s v) ps || stands_in before.outside v)
  -- a kept item writes it
  pub inside : (v : ℕ) → v < 256 → stands_in after.inside v ≡ (list_any (writes_inside s v) ps || stands_in before.inside v)
  -- a kept item writes it behind a read outside the kept set
  pub late : (v : ℕ) → v < 256 → stands_in after.late v ≡ (late (reads_outside s v) (writes_inside s v) ps (stands_in before.inside v) || stands_in before.late v)

abbrev pub FindsInBlock : Slicing → Block → Found → Found → Type 0
FindsInBlock s b before after = Finds s (points b) (λ v end. row (reads_inside s v) (writes_inside s v) b end) before after

abbrev pub FindsInStmt : Slicing → Stmt → Found → Found → Type 0
FindsInStmt s t before after = Finds s (stmt_points t) (λ v end. stmt_row (reads_inside s v) (writes_inside s v) t end) before after

-- whether a kept item stands among points
abbrev pub holds_among : Slicing → List Point → Bool
holds_among s ps = list_any (is_kept_item s) ps

-- ---- one step

-- what is found before an item, by whether it is kept, and what it reads and writes
pub record FindsByItem (held : Bool) (reads writes : ℕ → Bool) (before after : Found) : Type 0 where
  pub fetched : (v : ℕ) → v < 256 →
      stands_in after.fetched v ≡ (if held then (stands_in before.fetched v && not (writes v)) || reads v else stands_in before.fetched v)
  pub outside : (v : ℕ) → v < 256 → stands_in after.outside v ≡ (stands_in before.outside v || (not held && writes v))
  pub inside : (v : ℕ) → v < 256 → stands_in after.inside v ≡ (stands_in before.inside v || (held && writes v))
  pub late : (v : ℕ) → v < 256 → stands_in after.late v ≡ (stands_in before.late v || (not held && (reads v && stands_in before.inside v)))

-- before the test of an `if`, by whether a kept item stands in it
pub record FindsByTest (held : Bool) (reads : ℕ → Bool) (before after : Found) : Type 0 where
  pub fetched : (v : ℕ) → v < 256 → stands_in after.fetched v ≡ (stands_in before.fetched v || (held && reads v))
  pub outside : (v : ℕ) → v < 256 → stands_in after.outside v ≡ stands_in before.outside v
  pub inside : (v : ℕ) → v < 256 → stands_in after.inside v ≡ stands_in before.inside v
  pub late : (v : ℕ) → v < 256 → stands_in after.late v ≡ (stands_in before.late v || (not held && (reads v && stands_in before.inside v)))
