-- Which items are kept, as a walk from the end finds it.
use Rattle.std.specs.Prelude.{◌≡◌, ℕ, ◌+◌, ◌<◌, Bool, false, not, ◌==◌, ◌&&◌, ◌||◌, List, [], ◌∷◌, length, slice_index_or, if◌then◌else◌}
use Rattle.std.specs.List.{list_any}
use Rattle.tcel_core.specs.Numbering.{numbers_from}
use Rattle.tcel_core.specs.Rows.{stands_in}
use Rattle.tcel_flow.specs.declared.step.Step.{Step}
use Rattle.tcel_flow.specs.declared.step.Step.TheVariants as steps
use Rattle.tcel_flow.specs.Backward.{Pass, Goes, Passes}
use Rattle.tcel_flow.specs.Shape.{IsRow}
use Rattle.tcel_slice.specs.declared.keeping.Needed.{Needed}

-- what a walk knows: which variables kept items still need, whether one stands in the branch so far, and which items are kept
pub record Known : Type 0 where
  pub needed : ℕ → Bool
  pub holds : Bool
  pub marks : ℕ → Bool

-- some variable below 256 is among both
unfoldable pub have_common : (ℕ → Bool) → (ℕ → Bool) → Bool
have_common f g = list_any (λ v. f v && g v) (numbers_from 0 256)

-- what is known before an item, by whether it is kept, and what it reads and writes
abbrev pub before_item : Bool → (ℕ → Bool) → (ℕ → Bool) → ℕ → Known → Known
before_item kept reads writes id s =
    record {
      needed = λ v. if kept then (s.needed v && not (writes v)) || reads v else s.needed v;
      holds = s.holds || kept;
      marks = λ n. s.marks n || (kept && (id == n));
    }

-- before the test of an `if`, by what it reads, and what the second and the first branch left
abbrev pub before_test : (ℕ → Bool) → Known → Known → Known → Known
before_test reads behind second first =
    record {
      needed = λ v. (first.needed v || second.needed v) || (first.holds && reads v);
      holds = behind.holds || first.holds;
      marks = first.marks;
    }

-- the variables that a test reads
abbrev pub test_reads : Step → ℕ → Bool
test_reads (steps.Open id reads) v = stands_in reads v
test_reads _ v = false

-- an item is kept where it has an event or writes a needed variable
abbrev pub keep_item : Step → Known → Known
keep_item (steps.Item id reads writes event) s =
    before_item (event || have_common (stands_in writes) s.needed) (stands_in reads) (stands_in writes) id s
keep_item _ s = s

-- the walk
abbrev pub keeping : Pass Known
keeping =
    record {
      item = keep_item;
      enter = λ a. record { needed = a.needed; holds = false; marks = a.marks };
      again = λ a b. record { needed = a.needed; holds = b.holds; marks = b.marks };
      join = λ x a b c. before_test (test_reads x) a b c;
    }

-- the truth values of a list, false past its end
abbrev pub marked : List Bool → ℕ → Bool
marked list n = slice_index_or list n false

-- what the code has of the variables is what is known
pub record IsNeeded (state : Needed) (s : Known) : Type 0 where
  pub row : IsRow state.row s.needed
  pub holds : state.holds ≡ s.holds

-- what it has of the items too
pub record IsKnown (state : Needed) (list : List Bool) (s : Known) : Type 0 where
  pub needed : IsNeeded state s
  pub marks : (n : ℕ) → n < length list → marked list n ≡ s.marks n

-- the code went from these steps to those
pub record Went (xs ys : List Step) (s : Known) (after : Needed) (list' : List Bool) : Type 0 where
  pub known : Known
  pub is : IsKnown after list' known
  pub goes : Goes keeping xs ys s known

-- so it does from whatever it knows
pub record Keeps (xs ys : List Step) (before : Needed) (list : List Bool) (after : Needed) (list' : List Bool) : Type 0 where
  pub went : (s : Known) → IsKnown before list s → Went xs ys s after list'
  pub long : length list' ≡ length list

-- behind an `if`, to what is before it
pub record Passed (xs ys : List Step) (s : Known) (after : Needed) (list' : List Bool) : Type 0 where
  pub known : Known
  pub is : IsKnown after list' known
  pub passes : Passes keeping xs ys s known

pub record Leaves (xs ys : List Step) (before : Needed) (list : List Bool) (after : Needed) (list' : List Bool) : Type 0 where
  pub passed : (s : Known) → IsKnown before list s → Passed xs ys s after list'
  pub long : length list' ≡ length list

-- one step
pub record Steps (before : Needed) (list : List Bool) (after : Needed) (list' : List Bool) (f : Known → Known) : Type 0 where
  pub known : (s : Known) → IsKnown before list s → IsKnown after list' (f s)
  pub long : length list' ≡ length list

-- how many items stand among steps
abbrev pub items_in : List Step → ℕ
items_in [] = 0
items_in (steps.Item id reads writes event ∷ xs) = 1 + items_in xs
items_in (x ∷ xs) = items_in xs
