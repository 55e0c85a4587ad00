-- Worked examples of the schedule and lateness.
use Rattle.std.specs.Prelude.{ℕ, ◌+◌, List, [], ◌∷◌}
use Rattle.tcel_num.specs.Plan.{Plan, Point, frame}
use Rattle.tcel_num.specs.Lateness.{IsResponse}

-- a point after all cycles of a frame
abbrev pub end_within : ℕ → ℕ → Point
end_within total bound = record { prefix = total; bound = bound; name = frame }

-- 26 cycles of 70 ticks
abbrev pub quick_plan : Plan
quick_plan = record { period = 70; total = 26; points = end_within 26 70 ∷ [] }

-- 62 cycles of 100 ticks, within a bound that may be longer than the period
abbrev pub slow_plan : ℕ → Plan
slow_plan bound = record { period = 100; total = 62; points = end_within 62 bound ∷ [] }

-- both, the quick one first
abbrev pub two_plans : ℕ → List Plan
two_plans bound = quick_plan ∷ slow_plan bound ∷ []

-- the responses of the slow task's frames from this one on
abbrev pub SlowResponds : ℕ → ℕ → List ℕ → Type 0
SlowResponds bound at [] = Unit {0}
SlowResponds bound at (response ∷ more) =
    IsResponse (two_plans bound) (record { task = 1; frame = at; point = 0 }) (slow_plan bound) (end_within 62 bound) response × SlowResponds bound (at + 1) more
