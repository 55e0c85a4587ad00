-- Words of `judge`, and statuses that it alone has.
use Rattle.std.specs.Prelude.{ℕ, List, [], ◌∷◌, codes}
use Rattle.tcel_judge.specs.declared.verdict.Breach.TheVariants.{Missing, Overdue}
use Rattle.tcel_judge.specs.declared.verdict.Due.TheVariants.{Event, End}
use Rattle.tcel_trace.specs.declared.trace_fail.TraceFail.TheVariants.{BadTrace}
use Rattle.tcel_tool.specs.declared.status.Status.{Status}
use Rattle.tcel_tool.specs.declared.status.Status.TheVariants.{Breach, Trace}

-- `judge a b c d`, and the ticks
abbrev pub judge_line : List ℕ → List (List ℕ)
judge_line ticks = codes "judge" ∷ codes "a" ∷ codes "b" ∷ codes "c" ∷ codes "d" ∷ ticks ∷ []

-- the first line comes after its window
abbrev pub overdue_line : Status
overdue_line = Breach (Overdue 1)

-- the third event of the fourth frame, and the end of the first, are missing of the highest task
abbrev pub missing_event : Status
missing_event = Breach (Missing 0 3 (Event 2))

abbrev pub missing_end : Status
missing_end = Breach (Missing 0 0 End)

-- the first line is no line of a trace
abbrev pub bad_line : Status
bad_line = Trace (BadTrace 1)
