-- The demand schedule: which task each tick serves, from the plans alone. Plans stand in falling priority.
use Rattle.std.specs.Prelude.{ℕ, zero, suc, ◌+◌, ◌*◌, ◌/◌, Bool, nat_lt, if◌then◌else◌, List, ◌∷◌, map, slice_index}
use Rattle.tcel_num.specs.Plan.{Plan}

-- the cycles of all frames of the plan that are released at this time or before
abbrev pub released : Plan → ℕ → ℕ
released plan time = plan.total * (time / plan.period + 1)

-- whether a task that was served so many cycles still has some to do
abbrev pub is_pending : Plan → ℕ → ℕ → Bool
is_pending plan count time = nat_lt count (released plan time)

-- one tick from this time on: the highest pending task is served one cycle
abbrev pub serve_highest : List Plan → List ℕ → ℕ → List ℕ
serve_highest (plan ∷ plans) (count ∷ counts) time =
    if is_pending plan count time then (count + 1) ∷ counts else (count ∷ serve_highest plans counts time)
serve_highest _ counts time = counts

-- the cycles that each task was served before this time
abbrev pub served_counts : List Plan → ℕ → List ℕ
served_counts plans zero = map (λ _. 0) plans
served_counts plans (suc time) = serve_highest plans (served_counts plans time) time

-- the cycles that one task was served before this time
abbrev pub served : List Plan → ℕ → ℕ → ℕ
served plans time task = slice_index (served_counts plans time) task
