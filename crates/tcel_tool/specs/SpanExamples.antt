-- Worked timelines.
use Rattle.std.specs.Prelude.{ℕ, List, [], ◌∷◌, Option, Some, None, codes}
use Rattle.tcel_core.specs.Examples.{counter}
use Rattle.tcel_core.specs.Language.{Task}
use Rattle.tcel_num.specs.Plan.{Plan}
use Rattle.tcel_tool.specs.declared.spans.Span.{Span}

-- a plan without points
abbrev plan : ℕ → ℕ → Plan
plan period total = record { period = period; total = total; points = [] }

abbrev span : ℕ → ℕ → Option ℕ → Span
span start end task = record { start = start; end = end; task = task }

-- two tasks of which every tick serves one: 2 of 3 ticks, and 2 of 6
abbrev pub full : List Plan
full = plan 3 2 ∷ plan 6 2 ∷ []

abbrev pub full_spans : List Span
full_spans = span 0 2 (Some 0) ∷ span 2 3 (Some 1) ∷ span 3 5 (Some 0) ∷ span 5 6 (Some 1) ∷ []

-- the same with the first span in two, with another task in the last one, and with its last tick left out
abbrev pub full_split : List Span
full_split = span 0 1 (Some 0) ∷ span 1 2 (Some 0) ∷ span 2 3 (Some 1) ∷ span 3 5 (Some 0) ∷ span 5 6 (Some 1) ∷ []

abbrev pub full_idle : List Span
full_idle = span 0 2 (Some 0) ∷ span 2 3 (Some 1) ∷ span 3 5 (Some 0) ∷ span 5 6 None ∷ []

abbrev pub full_short : List Span
full_short = span 0 2 (Some 0) ∷ span 2 3 (Some 1) ∷ span 3 5 (Some 0) ∷ []

-- 4 of 8 ticks, and 14 of 40: the second task is preempted
abbrev pub preempted : List Plan
preempted = plan 8 4 ∷ plan 40 14 ∷ []

abbrev pub preempted_spans : List Span
preempted_spans = span 0 4 (Some 0) ∷ span 4 8 (Some 1) ∷ span 8 12 (Some 0) ∷ span 12 16 (Some 1) ∷ []

-- 2 of 5 ticks
abbrev pub idle : List Plan
idle = plan 5 2 ∷ []

abbrev pub idle_spans : List Span
idle_spans = span 0 2 (Some 0) ∷ span 2 5 None ∷ span 5 7 (Some 0) ∷ span 7 9 None ∷ []

-- lines of a set of two tasks
abbrev pub set : List Task
set = record counter { name = codes "hi" } ∷ record counter { name = codes "lo" } ∷ []

abbrev pub preempted_lines : List (List ℕ)
preempted_lines = codes "0 4 hi\n" ∷ codes "4 8 lo\n" ∷ codes "8 12 hi\n" ∷ codes "12 16 lo\n" ∷ []

abbrev pub idle_lines : List (List ℕ)
idle_lines = codes "0 2 hi\n" ∷ codes "2 5 idle\n" ∷ codes "5 7 hi\n" ∷ codes "7 9 idle\n" ∷ []
