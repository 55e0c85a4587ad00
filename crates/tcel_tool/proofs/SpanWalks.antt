-- The walk through the spans of a schedule, a tick a step, and what it has put so far.
use Rattle.std.proofs.Common.{◌≡◌, ◌≢◌, ◌∙◌, ◌-◌, ℕ, ◌+◌, ◌<◌, ◌≤◌, List, [], ◌∷◌, Option, map, refl, sym, ap, subst, inl, inr, arith}
use Rattle.std.specs.Prelude.{IfNone, IfSome}
use Rattle.tcel_core.specs.Language as core
use Rattle.tcel_demand.specs.Ticks.{IsIdle, Schedule, Serves, after}
use Rattle.tcel_io.specs.InTurn.{AreCutOff, AreTaken}
use Rattle.tcel_io.specs.Seen.{IsCutOff, IsTaken, Seen}
use Rattle.tcel_num.specs.Plan.{Plan}
use Rattle.tcel_tool.specs.Spans.{ArePutFor, AreSpans, Advances, IsLongest, IsSpan, ServesTask, span_line}
use Rattle.tcel_tool.specs.declared.spans.Span.{Span}
use Rattle.tcel_tool.proofs.SpanLaws.{are_spans, longer, one_served, one_tick, serves_task, spans_of, tick_is_span}

-- what a tick of the running schedule says, and where it stands then
pub tick_serves : (schedule : Schedule) (plans : List Plan) (time : ℕ) (task : Option ℕ) → schedule ≡ record { plans = plans; ticks = time }
    → IfSome task (Serves schedule.plans schedule.ticks) → IfNone task (IsIdle schedule.plans schedule.ticks) → ServesTask plans time task
tick_serves schedule plans time task is some none =
    subst (λ (s : Schedule). ServesTask s.plans s.ticks task) is (serves_task schedule.plans schedule.ticks task some none)

pub tick_later : (schedule new : Schedule) (plans : List Plan) (time next : ℕ) → schedule ≡ record { plans = plans; ticks = time } → new ≡ after schedule
    → next ≡ time + 1 → new ≡ record { plans = plans; ticks = next }
tick_later schedule new plans time next is later e = later ∙ ap after is ∙ ap (λ n. let s : Schedule = record { plans = plans; ticks = n } in s) (sym e)

pub next_end : (set : List core.Task) (span : Span) (task : Option ℕ) (next : Span) (old new : Seen) → Advances set span task next old new
    → next.end ≡ span.end + 1
next_end set span task next old new (inl grows) = ap (λ (s : Span). s.end) grows.is
next_end set span task next old new (inr changes) = ap (λ (s : Span). s.end) changes.is

module _ (set : List core.Task) (plans : List Plan) (ticks : ℕ) (start : Seen) where
  -- the walk is at this span: whatever puts the lines from the span's start on puts those from time 0 on
  pub record IsAtSpan (span : Span) (out : Seen) : Type 0 where
    pub within : span.end ≤ ticks
    pub is : IsSpan plans span
    pub taken : (end : Seen) → ArePutFor AreTaken set plans span.start ticks out end → ArePutFor AreTaken set plans 0 ticks start end
    pub cut_off : (end : Seen) → ArePutFor AreCutOff set plans span.start ticks out end → ArePutFor AreCutOff set plans 0 ticks start end

  pub at_first_span : (task : Option ℕ) → 0 < ticks → ServesTask plans 0 task → IsAtSpan (one_tick 0 task) start
  at_first_span task some serves = record { within = some; is = tick_is_span plans 0 task serves; taken = λ end h. h; cut_off = λ end h. h }

  module _ (span : Span) (out : Seen) (at : IsAtSpan span out) where
    longest_behind : (task : Option ℕ) → ServesTask plans span.end task → task ≢ span.task → IsLongest plans ticks span
    longest_behind task serves other = λ before same. other (one_served plans span.end task span.task serves same)

    -- the span's line, and then those behind it
    taken_behind : (middle end : Seen) → IsLongest plans ticks span → IsTaken (span_line set span) out middle
        → ArePutFor AreTaken set plans span.end ticks middle end → ArePutFor AreTaken set plans 0 ticks start end
    taken_behind middle end longest one (lines, are, rest) =
        at.taken end (
          span_line set span ∷ lines,
          record { spans = span ∷ are.spans; are = (refl, at.is, longest, are.are); is = ap (λ ls. span_line set span ∷ ls) are.is },
          (middle, one, rest),
        )

    cut_behind : (middle end : Seen) → IsLongest plans ticks span → IsTaken (span_line set span) out middle
        → ArePutFor AreCutOff set plans span.end ticks middle end → ArePutFor AreCutOff set plans 0 ticks start end
    cut_behind middle end longest one (lines, are, rest) =
        at.cut_off end (
          span_line set span ∷ lines,
          record { spans = span ∷ are.spans; are = (refl, at.is, longest, are.are); is = ap (λ ls. span_line set span ∷ ls) are.is },
          inr (middle, one, rest),
        )

    cut_here : (end : Seen) → IsLongest plans ticks span → IsCutOff (span_line set span) out end → ArePutFor AreCutOff set plans 0 ticks start end
    cut_here end longest cut =
        let left = ticks - span.end in
        let rest = spans_of plans span.end left in
        let are : AreSpans plans span.end ticks rest = are_spans plans span.end ticks left (omega (arith, at.within)) in
        at.cut_off end (
          map (span_line set) (span ∷ rest),
          record { spans = span ∷ rest; are = (refl, at.is, longest, are); is = refl },
          inl cut,
        )

    -- one tick more
    pub at_next_span : (task : Option ℕ) (next : Span) (out' : Seen) → span.end < ticks → ServesTask plans span.end task
        → Advances set span task next out out' → IsAtSpan next out'
    at_next_span task next out' less serves (inl grows) =
        let it : IsAtSpan (record { start = span.start; end = span.end + 1; task = span.task }) out = record {
          within = omega (arith, less);
          is = longer plans span at.is (subst (ServesTask plans span.end) grows.same serves);
          taken = at.taken;
          cut_off = at.cut_off;
        } in
        subst (λ (s : Span). IsAtSpan s out') (sym grows.is) (subst (IsAtSpan _) (sym grows.quiet) it)
    at_next_span task next out' less serves (inr changes) =
        let longest = longest_behind task serves changes.other in
        let it : IsAtSpan (one_tick span.end task) out' = record {
          within = omega (arith, less);
          is = tick_is_span plans span.end task serves;
          taken = λ end h. taken_behind out' end longest changes.taken h;
          cut_off = λ end h. cut_behind out' end longest changes.taken h;
        } in
        subst (λ (s : Span). IsAtSpan s out') (sym changes.is) it

    -- a fault where the span's line was put, because the next tick serves another
    pub cut_off_at : (task : Option ℕ) (end : Seen) → ServesTask plans span.end task → task ≢ span.task → IsCutOff (span_line set span) out end
        → ArePutFor AreCutOff set plans 0 ticks start end
    cut_off_at task end serves other cut = cut_here end (longest_behind task serves other) cut

    -- the last span
    pub all_taken : (end : Seen) → ticks ≤ span.end → IsTaken (span_line set span) out end → ArePutFor AreTaken set plans 0 ticks start end
    all_taken end last one =
        taken_behind end end (λ before. absurd (omega (arith, last, before))) one
        ([], record { spans = []; are = omega (arith, last, at.within); is = refl }, refl)

    pub last_cut_off : (end : Seen) → ticks ≤ span.end → IsCutOff (span_line set span) out end → ArePutFor AreCutOff set plans 0 ticks start end
    last_cut_off end last cut = cut_here end (λ before. absurd (omega (arith, last, before))) cut
