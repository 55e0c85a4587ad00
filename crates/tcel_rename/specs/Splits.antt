-- Which ifs stand in both parts, as a walk over the body finds it.
use Rattle.std.specs.Prelude.{◌≡◌, ℕ, ◌<◌, ◌≤◌, Bool, true, false, ◌==◌, ◌||◌, ◌&&◌, List, length, slice_index_or}
use Rattle.std.specs.List.{list_any}
use Rattle.tcel_core.specs.declared.row.Row.{Row}
use Rattle.tcel_core.specs.Kinds.{Slicing, is_fetched, is_kind_3, is_live, is_kept_item}
use Rattle.tcel_core.specs.Parts.{is_left, is_split}
use Rattle.tcel_core.specs.Paths.{Point, at_item, at_test, points}
use Rattle.tcel_flow.specs.Shape.{IsRow}
use Rattle.tcel_rename.specs.Lives.{stands_at}
use Rattle.tcel_rename.specs.declared.sets.Sets.{Sets}
use Rattle.tcel_rename.specs.declared.splits.Sides.{Sides}

-- the rows say for which variables the kept items of a body are live
pub record AreLive (s : Slicing) (rows : List Row) : Type 0 where
  pub live : (n v : ℕ) → v < 256 → stands_at rows n v ≡ is_live s n v
  pub own : (n v : ℕ) → is_live s n v ≡ true → v < length s.vars
  pub few : length s.vars ≤ 256

-- whether this is a test of that number, of an `if` that stands in both parts
abbrev pub is_split_test : Slicing → ℕ → Point → Bool
is_split_test s n (at_item id act) = false
is_split_test s n (at_test id test held other) = (id == n) && is_split s held other

-- what is found of points: whether there are kept items, and something for the rest; and which ifs are split, in a list
pub record FindsSides (s : Slicing) (ps : List Point) (marks : List Bool) (sides : Sides) (marks' : List Bool) : Type 0 where
  pub inside : sides.inside ≡ list_any (is_kept_item s) ps
  pub left : sides.left ≡ list_any (is_left s) ps
  pub splits : (n : ℕ) → n < length marks → slice_index_or marks' n false ≡ (slice_index_or marks n false || list_any (is_split_test s n) ps)
  pub long : length marks' ≡ length marks

-- the sets of a slicing: of which variables the first part has copies, which of these it fetches, for which kept items are
-- live, and which ifs are split
pub record AreSets (s : Slicing) (sets : Sets) : Type 0 where
  pub third : IsRow sets.third (is_kind_3 s)
  pub fetched : IsRow sets.fetched (is_fetched s)
  pub lives : AreLive s sets.lives
  pub splits : (n : ℕ) → slice_index_or sets.splits n false ≡ list_any (is_split_test s n) (points s.body)
