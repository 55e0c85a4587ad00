-- Where the counters of loops stand: behind the words of the variables, in the order of the loops in the source.
-- A part of a body may hold only some of them, and its items keep their numbers; so a counter goes by the number of its item in the source.
use Rattle.std.specs.Prelude.{ℕ, ◌+◌, ◌<◌, ◌≤◌, List}
use Rattle.std.specs.List.{AllByRecursion}
use Rattle.tcel_core.specs.declared.var.Var.{Var}
use Rattle.tcel_core.specs.Cells.{all_words}
use Rattle.tcel_core.specs.Contents.{Looped, item_loops, loops, loops_before}
use Rattle.tcel_core.specs.Language.{Block}

-- the cells of the counters of statements
pub data Counters : Type 0 where
  -- outside loops: from this cell on for the item with this number
  by_item : (ℕ → ℕ) → Counters
  -- in a loop: from this cell on, in text order
  in_order : ℕ → Counters

-- the first counter of an item
abbrev pub counter_of : Counters → ℕ → ℕ
counter_of (by_item cell) id = cell id
counter_of (in_order cell) id = cell

-- the counters of statements behind so many loops
abbrev pub behind : Counters → ℕ → Counters
behind (by_item cell) n = by_item cell
behind (in_order cell) n = in_order (cell + n)

-- the counters of the loops of a source, behind the words of these variables
abbrev pub counters_of : Block → List Var → Counters
counters_of source vars = by_item (λ id. all_words vars + loops_before id (item_loops source))

-- the counters of a part's loops are among those of the source's
abbrev pub HasItsCounters : Block → Looped → Type 0
HasItsCounters source i = 0 < i.loops → loops_before i.id (item_loops source) + i.loops ≤ loops source

abbrev pub HaveTheirCounters : Block → Block → Type 0
HaveTheirCounters source part = AllByRecursion (HasItsCounters source) (item_loops part)
