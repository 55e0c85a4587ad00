-- A walk through a body's steps from the end: what it knows is passed from each place to the one before it.
use Rattle.std.specs.Prelude.{◌≡◌, ℕ, List, [], ◌∷◌, take}
use Rattle.tcel_flow.specs.declared.step.Step.{Step}
use Rattle.tcel_flow.specs.declared.step.Step.TheVariants as steps

-- what a walk makes of what it knows
pub record Pass (S : Type 0) : Type 0 where
  -- before an item
  pub item : Step → S → S
  -- at the end of a second branch, by what is behind the `if`
  pub enter : S → S
  -- at the end of the first branch, by what is behind the `if` and what the second branch left
  pub again : S → S → S
  -- before the `if`, by its test's step, what is behind the `if`, and what its second and its first branch left
  pub join : Step → S → S → S → S

-- the branch that a walk is in: the second, by what is behind the `if`, or the first, by what the second left too
pub data Frame (S : Type 0) : Type 0 where
  in_second : S → Frame S
  in_first : S → S → Frame S

-- the steps before the first are at the head: those of the first list from its end, and then the second list
abbrev pub back : List Step → List Step → List Step
back [] rest = rest
back (x ∷ xs) rest = back xs (x ∷ rest)

-- these many steps, from their end
abbrev pub from_end : List Step → ℕ → List Step
from_end xs n = back (take n xs) []

-- at the start of all steps
abbrev pub finish : {S : Type 0} → Pass S → List (Frame S) → S → S
finish p [] s = s
finish p (in_second a ∷ k) s = finish p k (p.again a s)
finish p (in_first a b ∷ k) s = finish p k s

-- through steps from their end; a step that opens an `if`, or is in its middle, ends the branch
abbrev pub run : {S : Type 0} → Pass S → List (Frame S) → List Step → S → S
run p k [] s = finish p k s
run p k (steps.Item id reads writes event ∷ xs) s = run p k xs (p.item (steps.Item id reads writes event) s)
run p k (steps.Close ∷ xs) s = run p (in_second s ∷ k) xs (p.enter s)
run p [] (x ∷ xs) s = s
run p (in_second a ∷ k) (x ∷ xs) s = run p (in_first a s ∷ k) xs (p.again a s)
run p (in_first a b ∷ k) (x ∷ xs) s = run p k xs (p.join x a b s)

-- here a branch begins, or all steps do
abbrev pub IsStart : List Step → Type 0
IsStart [] = Unit {0}
IsStart (steps.Item id reads writes event ∷ xs) = ⊥
IsStart (steps.Close ∷ xs) = ⊥
IsStart (x ∷ xs) = Unit {0}

-- behind an `if` a walk went to what is before it
pub record Passes {S : Type 0} (p : Pass S) (xs ys : List Step) (s t : S) : Type 0 where
  pub same : (k : List (Frame S)) → run p (in_second s ∷ k) xs (p.enter s) ≡ run p k ys t

-- in a branch a walk went from these steps to those
pub record Goes {S : Type 0} (p : Pass S) (xs ys : List Step) (s t : S) : Type 0 where
  pub same : (k : List (Frame S)) → run p k xs s ≡ run p k ys t
