-- Laws of what a judge says.
use Rattle.std.specs.Prelude.{◌≡◌, ℕ, ℤ, List}
use Rattle.tcel_num.specs.Plan.{Plan}
use Rattle.tcel_core.specs.Language.{Task}
use Rattle.tcel_trace.specs.declared.trace_line.TraceLine.{TraceLine}
use Rattle.tcel_judge.specs.declared.verdict.Verdict.{Verdict}
use Rattle.tcel_judge.specs.declared.verdict.Verdict.TheVariants.{Yes}
use Rattle.tcel_judge.specs.FirstBreach.{Judged, judged_of, Says}
use Rattle.tcel_judge.specs.JudgedTraces.{Show, IsPlanned}

-- there is at most one verdict
abbrev pub IsSaidOnce : Type 0
IsSaidOnce =
    (set : List Judged) (plans : List Plan) (ticks : ℕ) (lines : List TraceLine) (v w : Verdict)
    → Says set plans ticks lines v → Says set plans ticks lines w → v ≡ w

-- only lines of a trace that meets the set are accepted
abbrev pub IsYesOnlyWhereMet : Type 0
IsYesOnlyWhereMet =
    (set : List Task) (plans : List Plan) (streams : List (List (List ℤ))) (ticks : ℕ) (lines : List TraceLine) → IsPlanned set plans
    → Says (judged_of set streams) plans ticks lines Yes → Show set plans streams ticks lines

-- all lines of such a trace are
abbrev pub IsYesWhereMet : Type 0
IsYesWhereMet =
    (set : List Task) (plans : List Plan) (streams : List (List (List ℤ))) (ticks : ℕ) (lines : List TraceLine) → IsPlanned set plans
    → Show set plans streams ticks lines → Says (judged_of set streams) plans ticks lines Yes
