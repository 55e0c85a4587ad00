-- Worked examples of breaches.
use Rattle.std.specs.Prelude.{ℕ, pos, ℤ, List, [], ◌∷◌, codes}
use Rattle.tcel_core.specs.Examples.{counter, counter_plans, counter_streams, often, waiting}
use Rattle.tcel_trace.specs.declared.trace_line.TraceLine.{TraceLine}
use Rattle.tcel_trace.specs.declared.trace_line.LineWhat.{LineWhat}
use Rattle.tcel_trace.specs.declared.trace_line.LineWhat.TheVariants.{Receive, Send, First, End}
use Rattle.tcel_judge.specs.declared.verdict.Verdict.{Verdict}
use Rattle.tcel_judge.specs.FirstBreach.{Judged, judged_of, Says}

abbrev pub line : ℕ → List ℕ → ℕ → LineWhat → TraceLine
line time task frame what = record { time = time; task = task; frame = frame; what = what }

-- a task that sends on what it receives and counts its frames
abbrev pub counting : List Judged
counting = judged_of (counter ∷ []) (counter_streams ∷ [])

abbrev pub receives : ℕ → TraceLine
receives time = line time (codes "t") 0 (Receive (codes "s") (pos 5))

abbrev pub sends : ℕ → ℤ → TraceLine
sends time value = line time (codes "t") 0 (Send (codes "o") value)

abbrev pub marks : ℕ → TraceLine
marks time = line time (codes "t") 0 First

abbrev pub ends : ℕ → List ℕ → TraceLine
ends time state = line time (codes "t") 0 (End state)

-- its frame 0
abbrev pub counted : List TraceLine
counted = receives 1 ∷ sends 3 (pos 5) ∷ marks 8 ∷ ends 9 (codes " n=1") ∷ []

-- one task sends each 8 ticks, and one waits for 10 ticks
abbrev pub both : List Judged
both = judged_of (often ∷ waiting ∷ []) ([] ∷ [] ∷ [])

-- the first frame of the one that sends each 8 ticks, and then the other at this time
abbrev pub waited : ℕ → List TraceLine
waited time =
    line 2 (codes "hi") 0 (Send (codes "o") (pos 1))
    ∷ line 3 (codes "hi") 0 First
    ∷ line 4 (codes "hi") 0 (End [])
    ∷ line time (codes "lo") 0 (Send (codes "o") (pos 1)) ∷ []

-- without its end
abbrev pub unended : List TraceLine
unended = receives 1 ∷ sends 3 (pos 5) ∷ marks 8 ∷ []

-- what the judge of that task says of a trace of 10 ticks
abbrev pub SaysCounting : List TraceLine → Verdict → Type 0
SaysCounting lines verdict = Says counting counter_plans 10 lines verdict
