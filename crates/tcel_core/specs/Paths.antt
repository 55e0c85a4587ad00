-- The paths through a body. A loop is one item; an `if` is left by one of its branches, whatever its test's value.
use Rattle.std.specs.Prelude.{ℕ, Bool, false, not, ◌&&◌, ◌||◌, List, [], ◌∷◌, ◌++◌, map, flat_map}
use Rattle.std.specs.List.{list_any}
use Rattle.tcel_core.specs.Language.{Expr, Block, done, next, Stmt, item, choice, timed, Act}
use Rattle.tcel_core.specs.Uses.{expr_reads, act_reads, act_writes}

-- what a path meets: an item, or the test of an `if` with its two branches
pub data Point : Type 0 where
  at_item : ℕ → Act → Point
  at_test : ℕ → Expr → Block → Block → Point

-- whether a variable is read there
abbrev pub point_reads : Point → ℕ → Bool
point_reads (at_item id act) v = act_reads act v
point_reads (at_test id test held other) v = expr_reads test v

-- whether a variable is written there
abbrev pub point_writes : Point → ℕ → Bool
point_writes (at_item id act) v = act_writes act v
point_writes (at_test id test held other) v = false

-- all items and tests in text order
abbrev mutual
  pub points : Block → List Point
  points done = []
  points (next s rest) = stmt_points s ++ points rest

  pub stmt_points : Stmt → List Point
  stmt_points (item id act) = at_item id act ∷ []
  stmt_points (choice id test held other) = at_test id test held other ∷ (points held ++ points other)
  stmt_points (timed id window body) = points body

-- each path of the first list with each of the second behind it
abbrev pub one_after_another : List (List Point) → List (List Point) → List (List Point)
one_after_another ps qs = flat_map (λ p. map (λ q. p ++ q) qs) ps

-- all paths
abbrev mutual
  pub paths : Block → List (List Point)
  paths done = [] ∷ []
  paths (next s rest) = one_after_another (stmt_paths s) (paths rest)

  pub stmt_paths : Stmt → List (List Point)
  stmt_paths (item id act) = (at_item id act ∷ []) ∷ []
  stmt_paths (choice id test held other) = map (λ p. at_test id test held other ∷ p) (paths held ++ paths other)
  stmt_paths (timed id window body) = paths body

-- a hit stands on the path, and before it no stop; a path without either comes to this end
abbrev pub meets : (Point → Bool) → (Point → Bool) → Bool → List Point → Bool
meets hit stop end [] = end
meets hit stop end (p ∷ ps) = hit p || (not (stop p) && meets hit stop end ps)

-- behind such a point the rest of the path is such
abbrev pub behind : (Point → Bool) → (List Point → Bool) → List Point → Bool
behind here rest [] = false
behind here rest (p ∷ ps) = (here p && rest ps) || behind here rest ps

-- on some path
abbrev pub on_some_path : (List Point → Bool) → Block → Bool
on_some_path such body = list_any such (paths body)
