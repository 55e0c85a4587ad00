-- The walks of a body that branches, worked out.
use Rattle.std.proofs.Common.{◌≤◌, ◌+◌, ◌++◌, ℕ, [], ◌∷◌, List, refl, inl, inr, arith}
use Rattle.tcel_target.specs.Costs.{unit_costs}
use Rattle.tcel_cost.specs.Examples.{branching_vars, branching_body}
use Rattle.tcel_cost.specs.Walks.{Counts, Walks, IsTotal, EndsAt, Passes, Shows, Then}

branching-ends : (end : ℕ) → EndsAt (Walks branching_body branching_vars unit_costs) 0 end → end ≤ 15
branching-ends end h =
    let walk = h.1 in
    elim walk.two.one.two as (λ _. end ≤ 15) [ inl held ↦ omega arith | inr other ↦ omega arith ]

-- a walk joined of two, in so many cycles
pass : (cycles entry : ℕ) → Passes cycles entry (entry + cycles) []
pass cycles entry = (refl, refl)

show : (cycles entry : ℕ) → Shows cycles entry (entry + cycles) ((entry + cycles) ∷ [])
show cycles entry = (refl, refl)

join : (first second : Counts) (entry middle end : ℕ) (before after : List ℕ) → first entry middle before → second middle end after → Then first second entry end (before ++ after)
join first second entry middle end before after one two =
    record { middle = middle; before = before; after = after; one = one; two = two; joined = refl }

pub branching-total : IsTotal (Walks branching_body branching_vars unit_costs) 0 15
branching-total = record {
  there = (
    1 ∷ 15 ∷ [],
    join _ _ 0 1 15 (1 ∷ []) (15 ∷ []) (show 1 0)
        (join _ _ 1 11 15 [] (15 ∷ [])
        (join _ _ 1 5 11 [] [] (pass 4 1) (inr (join _ _ 5 7 11 [] [] (pass 2 5) (join _ _ 7 11 11 [] [] (pass 4 7) (pass 0 11)))))
        (join _ _ 11 13 15 [] (15 ∷ []) (pass 2 11) (join _ _ 13 15 15 (15 ∷ []) [] (show 2 13) (pass 0 15)))),
  );
  greatest = branching-ends;
}
