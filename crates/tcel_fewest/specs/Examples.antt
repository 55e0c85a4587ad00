-- A plan in which numbers are told apart, on which the definitions are tried.
use Rattle.std.specs.Prelude.{ℕ, []}
use Rattle.tcel_num.specs.Plan.{Plan}

-- a plan without points
abbrev pub plan_for : ℕ → Plan
plan_for total = record { period = 10; total = total; points = [] }
