-- What plans ask for before a time.
use Rattle.std.specs.Prelude.{ℕ, zero, suc, ◌+◌, ◌*◌, ◌/◌, List, sum_by}
use Rattle.tcel_num.specs.Plan.{Plan}

-- the releases at time 0 and after each period, those at the time itself not counted: the time by the period, rounded up
abbrev pub releases : ℕ → ℕ → ℕ
releases period zero = 0
releases period (suc time) = time / period + 1

-- the cycles of all frames that these plans release before this time
abbrev pub asked : List Plan → ℕ → ℕ
asked plans time = sum_by (λ (plan : Plan). plan.total * releases plan.period time) plans
