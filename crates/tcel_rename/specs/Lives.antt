-- For which variables kept items are live, as a walk from the end finds it.
use Rattle.std.specs.Prelude.{◌≡◌, ℕ, ◌<◌, Bool, not, ◌==◌, ◌||◌, ◌&&◌, List, [], length, slice_index_or}
use Rattle.tcel_core.specs.declared.row.Row.{Row}
use Rattle.tcel_core.specs.Kept.{is_item}
use Rattle.tcel_core.specs.Kinds.{Slicing, reads_outside, writes_inside}
use Rattle.tcel_core.specs.Language.{Block, Stmt}
use Rattle.tcel_core.specs.Paths.{point_writes}
use Rattle.tcel_core.specs.Rows.{stands_in}
use Rattle.tcel_parts.specs.Rows.{row, stmt_row, row_behind, stmt_row_behind}

-- whether the variable stands in the row of that number
abbrev pub stands_at : List Row → ℕ → ℕ → Bool
stands_at rows n v = stands_in (slice_index_or rows n (record { bits = [] })) v

-- what is found before statements, by what is wanted on the paths from there and behind their items
pub record Finds (third : Row) (paths : ℕ → Bool → Bool) (behind : ℕ → ℕ → Bool → Bool) (before : Row) (lives : List Row) (after : Row) (lives' : List Row) : Type 0 where
  pub wanted : (v : ℕ) → v < 256 → stands_in after v ≡ paths v (stands_in before v)
  pub live : (n v : ℕ) → n < length lives → v < 256 → stands_at lives' n v ≡ (stands_at lives n v || (stands_in third v && behind n v (stands_in before v)))
  pub long : length lives' ≡ length lives

-- the rest wants it there
abbrev pub wanted_row : Slicing → Block → ℕ → Bool → Bool
wanted_row s b v end = row (reads_outside s v) (λ p. point_writes p v) b end

abbrev pub stmt_wanted_row : Slicing → Stmt → ℕ → Bool → Bool
stmt_wanted_row s t v end = stmt_row (reads_outside s v) (λ p. point_writes p v) t end

-- behind the kept item, which writes it, the rest wants it
abbrev pub live_row : Slicing → Block → ℕ → ℕ → Bool → Bool
live_row s b n v end = row_behind (λ p. is_item n p && writes_inside s v p) (reads_outside s v) (λ p. point_writes p v) b end

abbrev pub stmt_live_row : Slicing → Stmt → ℕ → ℕ → Bool → Bool
stmt_live_row s t n v end = stmt_row_behind (λ p. is_item n p && writes_inside s v p) (reads_outside s v) (λ p. point_writes p v) t end

abbrev pub FindsLiveInBlock : Slicing → Row → Block → Row → List Row → Row → List Row → Type 0
FindsLiveInBlock s third b before lives after lives' = Finds third (wanted_row s b) (live_row s b) before lives after lives'

abbrev pub FindsLiveInStmt : Slicing → Row → Stmt → Row → List Row → Row → List Row → Type 0
FindsLiveInStmt s third t before lives after lives' = Finds third (stmt_wanted_row s t) (stmt_live_row s t) before lives after lives'

-- before an item, by whether it is kept, its number, and what it reads and writes
abbrev pub FindsLiveByItem : Bool → ℕ → (ℕ → Bool) → (ℕ → Bool) → Row → Row → List Row → Row → List Row → Type 0
FindsLiveByItem held id reads writes third before lives after lives' =
    Finds third (λ v end. (not held && reads v) || (not (writes v) && end)) (λ n v end. ((id == n) && (held && writes v)) && end) before lives after lives'
