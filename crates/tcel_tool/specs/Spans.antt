-- The text of `timeline`: whom the ticks of the demand schedule serve, in spans.
use Rattle.std.specs.Prelude.{◌≡◌, ◌≢◌, ◌⊎◌, ◌≤◌, ◌<◌, ◌+◌, ℕ, List, [], ◌∷◌, ◌++◌, Option, Some, None, map, unwrap_or, codes}
use Rattle.std.specs.Fmt.{decimal}
use Rattle.tcel_core.specs.Language as core
use Rattle.tcel_demand.specs.Ticks.{IsIdle, Serves}
use Rattle.tcel_io.specs.Seen.{IsTaken, Seen}
use Rattle.tcel_num.specs.Plan.{Plan}
use Rattle.tcel_tool.specs.SetChoice.{name_at}
use Rattle.tcel_tool.specs.declared.spans.Span.{Span}

-- the tick from this time on serves this task of the plans, or none
abbrev pub ServesTask : List Plan → ℕ → Option ℕ → Type 0
ServesTask plans time None = IsIdle plans time
ServesTask plans time (Some task) = Serves plans time task

-- there are ticks in the span, and each of them serves its task, or none
pub record IsSpan (plans : List Plan) (span : Span) : Type 0 where
  pub some : span.start < span.end
  pub each : (time : ℕ) → span.start ≤ time → time < span.end → ServesTask plans time span.task

-- it can't be longer before this time: the tick behind it serves another
abbrev pub IsLongest : List Plan → ℕ → Span → Type 0
IsLongest plans to span = span.end < to → ServesTask plans span.end span.task → ⊥

-- the longest spans from one time to another, each from the end of the one before it on
abbrev pub AreSpans : List Plan → ℕ → ℕ → List Span → Type 0
AreSpans plans from to [] = from ≡ to
AreSpans plans from to (span ∷ spans) = (span.start ≡ from) × IsSpan plans span × IsLongest plans to span × AreSpans plans span.end to spans

-- ---- the text

-- the name of the task that is served, or `idle`
abbrev pub label : List core.Task → Option ℕ → List ℕ
label set None = codes "idle"
label set (Some task) = unwrap_or (name_at set task) []

abbrev pub span_line : List core.Task → Span → List ℕ
span_line set span = decimal span.start ++ (codes " " ++ (decimal span.end ++ (codes " " ++ (label set span.task ++ codes "\n"))))

-- a line for each span
pub record AreLines (set : List core.Task) (plans : List Plan) (from to : ℕ) (lines : List (List ℕ)) : Type 0 where
  pub spans : List Span
  pub are : AreSpans plans from to spans
  pub is : lines ≡ map (span_line set) spans

-- ---- how it is put

-- the lines from one time to another were put so
abbrev pub ArePutFor : (List (List ℕ) → Seen → Seen → Type 0) → List core.Task → List Plan → ℕ → ℕ → Seen → Seen → Type 0
ArePutFor Put set plans from to old new = (lines : List (List ℕ)) × AreLines set plans from to lines × Put lines old new

-- the tick behind the span serves the span's task: the span grows by it, and nothing is put
pub record Grows (span : Span) (task : Option ℕ) (next : Span) (old new : Seen) : Type 0 where
  pub same : task ≡ span.task
  pub is : next ≡ record { start = span.start; end = span.end + 1; task = span.task }
  pub quiet : new ≡ old

-- it serves another task: the span's line was put, and the next span begins with the tick
pub record Changes (set : List core.Task) (span : Span) (task : Option ℕ) (next : Span) (old new : Seen) : Type 0 where
  pub other : task ≢ span.task
  pub is : next ≡ record { start = span.end; end = span.end + 1; task = task }
  pub taken : IsTaken (span_line set span) old new

abbrev pub Advances : List core.Task → Span → Option ℕ → Span → Seen → Seen → Type 0
Advances set span task next old new = Grows span task next old new ⊎ Changes set span task next old new
