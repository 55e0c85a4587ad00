-- The items that slicing keeps in a task's first part: those with events, and what these depend on.
use Rattle.std.specs.Prelude.{◌≡◌, ℕ, Bool, true, false, ◌==◌, ◌&&◌, ◌||◌, Contains}
use Rattle.std.specs.List.{list_any}
use Rattle.tcel_core.specs.Contents.{act_has_event}
use Rattle.tcel_core.specs.Language.{Block, done, next, Stmt, item, choice, timed, Act}
use Rattle.tcel_core.specs.Paths.{Point, at_item, at_test, points, point_reads, point_writes, meets, behind, on_some_path}

-- what uses a variable: an item, or the test of an `if`
pub data Use : Type 0 where
  by_item : ℕ → Use
  by_test : ℕ → Use

-- whether this point is the item
abbrev pub is_item : ℕ → Point → Bool
is_item n (at_item id act) = id == n
is_item n (at_test id test held other) = false

-- whether this point is the use
abbrev pub is_use : Use → Point → Bool
is_use (by_item n) (at_item id act) = id == n
is_use (by_test n) (at_test id test held other) = id == n
is_use _ _ = false

-- on some path the item is before the use, writes the variable that the use reads, and nothing between them writes it
abbrev pub reaches : Block → ℕ → Use → ℕ → Bool
reaches body from user v =
    on_some_path
    (behind (λ p. is_item from p && point_writes p v)
    (meets (λ p. is_use user p && point_reads p v) (λ p. point_writes p v) false))
    body

-- whether the item stands in the block
abbrev pub holds_item : Block → ℕ → Bool
holds_item body n = list_any (is_item n) (points body)

-- whether the test is one around the item
abbrev mutual
  pub stands_around : Block → ℕ → ℕ → Bool
  stands_around done n test = false
  stands_around (next s rest) n test = stmt_stands_around s n test || stands_around rest n test

  pub stmt_stands_around : Stmt → ℕ → ℕ → Bool
  stmt_stands_around (item id act) n test = false
  stmt_stands_around (choice id e held other) n test =
      ((id == test) && (holds_item held n || holds_item other n)) || (stands_around held n test || stands_around other n test)
  stmt_stands_around (timed id window body) n test = stands_around body n test

-- a set of items with each that has an event, and with a member each item that it depends on
pub record IsClosed (body : Block) (kept : ℕ → Bool) : Type 0 where
  pub events : (n : ℕ) (act : Act) → Contains (points body) (at_item n act) → act_has_event act ≡ true → kept n ≡ true
  -- what reaches a member for a variable that it reads
  pub for_items : (from n v : ℕ) → kept n ≡ true → reaches body from (by_item n) v ≡ true → kept from ≡ true
  -- what reaches a test around a member for a variable that the test reads
  pub for_tests : (from n test v : ℕ) → kept n ≡ true → stands_around body n test ≡ true → reaches body from (by_test test) v ≡ true → kept from ≡ true

-- the least such set
pub record IsKeptSet (body : Block) (kept : ℕ → Bool) : Type 0 where
  pub closed : IsClosed body kept
  pub least : (other : ℕ → Bool) → IsClosed body other → (n : ℕ) → kept n ≡ true → other n ≡ true
