-- How the two parts of a sliced task share its variables: the three kinds, and which values are handed on.
use Rattle.std.specs.Prelude.{ℕ, zero, suc, Bool, false, not, ◌&&◌, ◌||◌, List, [], ◌∷◌}
use Rattle.std.specs.List.{list_any}
use Rattle.tcel_core.specs.declared.var.Var.{Var}
use Rattle.tcel_core.specs.Frames.{is_state}
use Rattle.tcel_core.specs.Kept.{is_item}
use Rattle.tcel_core.specs.Language.{Block}
use Rattle.tcel_core.specs.Paths.{Point, at_item, at_test, points, point_reads, point_writes, meets, behind, on_some_path}

-- a body, its variables, and which of its items are kept
pub record Slicing : Type 0 where
  pub vars : List Var
  pub body : Block
  pub kept : ℕ → Bool

-- an item that is kept
abbrev pub is_kept_item : Slicing → Point → Bool
is_kept_item s (at_item id act) = s.kept id
is_kept_item s (at_test id test held other) = false

-- whether a kept item stands in the block
abbrev pub holds_kept : Slicing → Block → Bool
holds_kept s b = list_any (is_kept_item s) (points b)

-- what the first part has: a kept item, or the test of an `if` that holds one
abbrev pub is_inside : Slicing → Point → Bool
is_inside s (at_item id act) = s.kept id
is_inside s (at_test id test held other) = holds_kept s held || holds_kept s other

-- whether the first part reads the variable there
abbrev pub reads_inside : Slicing → ℕ → Point → Bool
reads_inside s v p = is_inside s p && point_reads p v

-- whether the variable is read there outside the kept set
abbrev pub reads_outside : Slicing → ℕ → Point → Bool
reads_outside s v p = not (is_inside s p) && point_reads p v

-- whether a kept item there writes the variable
abbrev pub writes_inside : Slicing → ℕ → Point → Bool
writes_inside s v p = is_inside s p && point_writes p v

-- whether an item outside the kept set writes the variable there
abbrev pub writes_outside : Slicing → ℕ → Point → Bool
writes_outside s v p = not (is_inside s p) && point_writes p v

-- shared as it is: only kept items write it, and in the text none of them behind a read outside the kept set
abbrev pub is_kind_1 : Slicing → ℕ → Bool
is_kind_1 s v =
    not (list_any (writes_outside s v) (points s.body)) && not (behind (reads_outside s v) (list_any (writes_inside s v)) (points s.body))

-- the rest's own: no kept item writes it
abbrev pub is_kind_2 : Slicing → ℕ → Bool
is_kind_2 s v = not (is_kind_1 s v) && not (list_any (writes_inside s v) (points s.body))

-- of which the first part has a copy
abbrev pub is_kind_3 : Slicing → ℕ → Bool
is_kind_3 s v = not (is_kind_1 s v) && not (is_kind_2 s v)

-- whether this is a variable that is kept from frame to frame
abbrev pub is_state_variable : List Var → ℕ → Bool
is_state_variable [] v = false
is_state_variable (x ∷ xs) zero = is_state x.keep
is_state_variable (x ∷ xs) (suc v) = is_state_variable xs v

-- what the item writes to a variable of kind 3 is still to be read outside the kept set, or is the state at the body's end
abbrev pub is_live : Slicing → ℕ → ℕ → Bool
is_live s n v =
    is_kind_3 s v
    && on_some_path
    (behind (λ p. is_item n p && writes_inside s v p)
    (meets (reads_outside s v) (λ p. point_writes p v) (is_state_variable s.vars v)))
    s.body

-- the first part reads a variable of kind 3 before it writes it
abbrev pub is_fetched : Slicing → ℕ → Bool
is_fetched s v = is_kind_3 s v && on_some_path (meets (reads_inside s v) (writes_inside s v) false) s.body
