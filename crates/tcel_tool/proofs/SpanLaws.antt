-- Spans of the demand schedule: between two times there is one list of them.
use Rattle.std.proofs.Common.{◌≡◌, ◌≢◌, ◌∙◌, ◌⊎◌, ℕ, zero, suc, ◌+◌, ◌<◌, ◌≤◌, true, false, List, [], ◌∷◌, Option, Some, None, length, get_or, refl, sym, ap, subst, inl, inr, arith}
use Rattle.std.specs.Option.{option_eq}
use Rattle.std.specs.Prelude.{IfNone, IfSome, if◌then◌else◌, nat_eq, option_map, slice_get}
use Rattle.std.proofs.lemmas.Bool.{cases_lt, cases_order, cond-true, cond-false, lt-ltb, le-ltb}
use Rattle.std.proofs.lemmas.Bool.Decides.{eqb_tells}
use Rattle.tcel_demand.specs.Ticks.{IsIdle, Serves}
use Rattle.tcel_demand.proofs.Served.{length-served}
use Rattle.tcel_num.specs.Plan.{Plan}
use Rattle.tcel_num.specs.Schedule.{is_pending, released, served_counts}
use Rattle.tcel_tool.specs.Spans.{AreSpans, IsLongest, IsSpan, ServesTask}
use Rattle.tcel_tool.specs.declared.spans.Span.{Span}

-- ---- whom a tick serves

-- what a tick of the running schedule says
pub serves_task : (plans : List Plan) (time : ℕ) (task : Option ℕ) → IfSome task (Serves plans time) → IfNone task (IsIdle plans time)
    → ServesTask plans time task
serves_task plans time None some none = none
serves_task plans time (Some task) some none = some

-- one task at most
pub one_served : (plans : List Plan) (time : ℕ) (a b : Option ℕ) → ServesTask plans time a → ServesTask plans time b → a ≡ b
one_served plans time None None h k = refl
one_served plans time None (Some b) h k = absurd (h b k.pending)
one_served plans time (Some a) None h k = absurd (k a h.pending)
one_served plans time (Some a) (Some b) h k =
    elim (cases_order a b) [
      | inl e ↦ ap (λ n. Some n) e
      | inr (inl less) ↦ absurd (k.highest a less h.pending)
      | inr (inr more) ↦ absurd (h.highest b more k.pending)
    ]

-- the first of these plans that has cycles to do, where each was served so many
abbrev first_pending : List Plan → List ℕ → ℕ → Option ℕ
first_pending (plan ∷ plans) (count ∷ counts) time =
    if is_pending plan count time then Some 0 else option_map (λ n. suc n) (first_pending plans counts time)
first_pending _ counts time = None

-- what it says: that plan has some, and no plan before it
abbrev HasNone : List Plan → List ℕ → ℕ → ℕ → Type 0
HasNone plans counts time task = (plan : Plan) → slice_get plans task ≡ Some plan → released plan time ≤ get_or counts task 0

abbrev Finds : List Plan → List ℕ → ℕ → Option ℕ → Type 0
Finds plans counts time None = (task : ℕ) → HasNone plans counts time task
Finds plans counts time (Some task) =
    (plan : Plan) × (slice_get plans task ≡ Some plan) × (get_or counts task 0 < released plan time)
    × ((higher : ℕ) → higher < task → HasNone plans counts time higher)

module _ (plan : Plan) (plans : List Plan) (count : ℕ) (counts : List ℕ) (time : ℕ) where
  one_more : released plan time ≤ count → (task : ℕ) → ((t : ℕ) → suc t ≡ task → HasNone plans counts time t)
      → HasNone (plan ∷ plans) (count ∷ counts) time task
  one_more low zero behind = λ other e. let same : plan ≡ other = cc in omega (arith, low, ap (λ (p : Plan). released p time) same)
  one_more low (suc task) behind = behind task refl

  found_behind : (found : Option ℕ) → released plan time ≤ count → Finds plans counts time found
      → Finds (plan ∷ plans) (count ∷ counts) time (option_map (λ n. suc n) found)
  found_behind None low none = λ task. one_more low task (λ t e. none t)
  found_behind (Some task) low (other, of_task, some, highest) =
      (other, of_task, some, λ higher less. one_more low higher (λ t e. highest t (omega (arith, e, less))))

finds : (plans : List Plan) (counts : List ℕ) (time : ℕ) → length counts ≡ length plans → Finds plans counts time (first_pending plans counts time)
finds [] counts time e = λ task plan there. absurd cc
finds (plan ∷ plans) [] time e = absurd (omega (arith, e))
finds (plan ∷ plans) (count ∷ counts) time e =
    let found = first_pending plans counts time in
    let test = is_pending plan count time in
    let P = Finds (plan ∷ plans) (count ∷ counts) time in
    elim (cases_lt count (released plan time)) [
      | inl some ↦ subst P (sym (cond-true test _ _ (lt-ltb count (released plan time) some))) (plan, refl, some, λ higher less. absurd (omega (arith, less)))
      | inr low ↦ subst P (sym (cond-false test _ _ (le-ltb count (released plan time) low)))
          (found_behind plan plans count counts time found low (finds plans counts time (omega (arith, e))))
    ]

found_serves : (plans : List Plan) (time : ℕ) (found : Option ℕ) → Finds plans (served_counts plans time) time found → ServesTask plans time found
found_serves plans time None none = λ task pending. absurd (omega (arith, none task pending.plan pending.of_task, pending.some))
found_serves plans time (Some task) (plan, of_task, some, highest) = record {
  pending = record { plan = plan; of_task = of_task; some = some };
  highest = λ higher less pending. absurd (omega (arith, highest higher less pending.plan pending.of_task, pending.some));
}

-- the task that the tick from this time on serves
abbrev pub served_by : List Plan → ℕ → Option ℕ
served_by plans time = first_pending plans (served_counts plans time) time

served_by_serves : (plans : List Plan) (time : ℕ) → ServesTask plans time (served_by plans time)
served_by_serves plans time = found_serves plans time (served_by plans time) (finds plans (served_counts plans time) time (length-served plans time))

-- ---- there are spans

options_tell : (a b : Option ℕ) → ((option_eq nat_eq a b ≡ true) × (a ≡ b)) ⊎ ((option_eq nat_eq a b ≡ false) × (a ≢ b))
options_tell None None = inl (refl, refl)
options_tell None (Some b) = inr (refl, λ e. absurd cc)
options_tell (Some a) None = inr (refl, λ e. absurd cc)
options_tell (Some a) (Some b) = elim (eqb_tells a b) [ inl (t, e) ↦ inl (t, ap (λ n. Some n) e) | inr (f, apart) ↦ inr (f, λ e. apart cc) ]

abbrev pub one_tick : ℕ → Option ℕ → Span
one_tick time task = record { start = time; end = time + 1; task = task }

-- one tick more at the end of a span
pub longer : (plans : List Plan) (span : Span) → IsSpan plans span → ServesTask plans span.end span.task
    → IsSpan plans (record { start = span.start; end = span.end + 1; task = span.task })
longer plans span is serves = record {
  some = omega (arith, is.some);
  each = λ time low high. elim (cases_lt time span.end) [
    | inl less ↦ is.each time low less
    | inr more ↦ (let same : span.end ≡ time = omega (arith, more, high) in subst (λ t. ServesTask plans t span.task) same serves)
  ];
}

-- a tick in front of spans
abbrev in_front : ℕ → Option ℕ → List Span → List Span
in_front time task [] = one_tick time task ∷ []
in_front time task (span ∷ spans) =
    if option_eq nat_eq task span.task then record { start = time; end = span.end; task = span.task } ∷ spans else one_tick time task ∷ span ∷ spans

-- the spans of so many ticks from a time on
abbrev pub spans_of : List Plan → ℕ → ℕ → List Span
spans_of plans from zero = []
spans_of plans from (suc n) = in_front from (served_by plans from) (spans_of plans (suc from) n)

module _ (plans : List Plan) (from : ℕ) (task : Option ℕ) (serves : ServesTask plans from task) where
  pub tick_is_span : IsSpan plans (one_tick from task)
  tick_is_span = record {
    some = omega arith;
    each = λ time low high. let same : from ≡ time = omega (arith, low, high) in subst (λ t. ServesTask plans t task) same serves;
  }

  longer_is_span : (span : Span) → IsSpan plans span → span.start ≡ suc from → task ≡ span.task
      → IsSpan plans (record { start = from; end = span.end; task = span.task })
  longer_is_span span is start same = record {
    some = omega (arith, is.some, start);
    each = λ time low high. elim (cases_order from time) [
      | inl e ↦ subst (λ t. ServesTask plans t span.task) e (subst (ServesTask plans from) same serves)
      | inr (inl less) ↦ is.each time (omega (arith, less, start)) high
      | inr (inr more) ↦ absurd (omega (arith, low, more))
    ];
  }

  are_in_front : (to : ℕ) (spans : List Span) → from < to → AreSpans plans (suc from) to spans → AreSpans plans from to (in_front from task spans)
  are_in_front to [] less end = (refl, tick_is_span, λ behind. absurd (omega (arith, end, behind)), omega (arith, end))
  are_in_front to (span ∷ spans) less (start, is, longest, rest) =
      let test = option_eq nat_eq task span.task in
      let behind = is.each (from + 1) (omega (arith, start)) (omega (arith, start, is.some)) in
      let ends : task ≢ span.task → IsLongest plans to (one_tick from task) =
      λ apart before same. apart (one_served plans (from + 1) task span.task same behind) in
      elim (options_tell task span.task) [
        | inl (t, same) ↦ subst (AreSpans plans from to) (sym (cond-true test _ _ t)) (refl, longer_is_span span is start same, longest, rest)
        | inr (f, apart) ↦ subst (AreSpans plans from to) (sym (cond-false test _ _ f))
            (refl, tick_is_span, ends apart, (omega (arith, start), is, longest, rest))
      ]

pub are_spans : (plans : List Plan) (from to n : ℕ) → from + n ≡ to → AreSpans plans from to (spans_of plans from n)
are_spans plans from to zero e = omega (arith, e)
are_spans plans from to (suc n) e =
    are_in_front plans from (served_by plans from) (served_by_serves plans from) to (spans_of plans (suc from) n) (omega (arith, e))
    (are_spans plans (suc from) to n (omega (arith, e)))

-- ---- and no others

spans_end : (plans : List Plan) (from to : ℕ) (spans : List Span) → AreSpans plans from to spans → from ≤ to
spans_end plans from to [] e = omega (arith, e)
spans_end plans from to (span ∷ spans) (start, is, longest, rest) = omega (arith, spans_end plans span.end to spans rest, is.some, start)

-- a span that begins as another and is as long as can be is no shorter
no_shorter : (plans : List Plan) (to : ℕ) (a b : Span) → a.start ≡ b.start → IsSpan plans a → IsSpan plans b → a.task ≡ b.task → b.end ≤ to
    → IsLongest plans to a → b.end ≤ a.end
no_shorter plans to a b start is other task within longest =
    elim (cases_lt a.end b.end) [
      | inl less ↦ absurd (
          let behind = other.each a.end (omega (arith, start, is.some)) less in
          longest (omega (arith, less, within)) (subst (ServesTask plans a.end) (sym task) behind)
          )
      | inr enough ↦ enough
    ]

same_span : (a b : Span) → a.start ≡ b.start → a.end ≡ b.end → a.task ≡ b.task → a ≡ b
same_span a b start end task =
    ap (λ n. let s : Span = record { start = n; end = a.end; task = a.task } in s) start
    ∙ ap (λ n. let s : Span = record { start = b.start; end = n; task = a.task } in s) end
    ∙ ap (λ t. let s : Span = record { start = b.start; end = b.end; task = t } in s) task

-- two that follow one another serve two tasks, or a task and none
pub neighbours_differ : (plans : List Plan) (from to : ℕ) (a b : Span) (rest : List Span) → AreSpans plans from to (a ∷ b ∷ rest) → a.task ≢ b.task
neighbours_differ plans from to a b rest (start, is, longest, (start', is', longest', more)) =
    λ same.
    let behind = is'.each a.end (omega (arith, start')) (omega (arith, start', is'.some)) in
    longest (omega (arith, start', is'.some, spans_end plans b.end to rest more)) (subst (ServesTask plans a.end) (sym same) behind)

pub one_list : (plans : List Plan) (from to : ℕ) (a b : List Span) → AreSpans plans from to a → AreSpans plans from to b → a ≡ b
one_list plans from to [] [] h k = refl
one_list plans from to [] (b ∷ bs_more) h (start, is, longest, rest) = absurd (omega (arith, h, start, is.some, spans_end plans b.end to bs_more rest))
one_list plans from to (a ∷ as_more) [] (start, is, longest, rest) k = absurd (omega (arith, k, start, is.some, spans_end plans a.end to as_more rest))
one_list plans from to (a ∷ as_more) (b ∷ bs_more) (start, is, longest, rest) (start', is', longest', rest') =
    let begin = start ∙ sym start' in
    let other = is'.each a.start (omega (arith, begin)) (omega (arith, begin, is'.some)) in
    let task = one_served plans a.start a.task b.task (is.each a.start (omega arith) is.some) other in
    let long = no_shorter plans to a b begin is is' task (spans_end plans b.end to bs_more rest') longest in
    let short = no_shorter plans to b a (sym begin) is' is (sym task) (spans_end plans a.end to as_more rest) longest' in
    let end : a.end ≡ b.end = omega (arith, long, short) in
    let same = same_span a b begin end task in
    ap (λ (s : Span). s ∷ as_more) same
    ∙ ap (λ (ss : List Span). b ∷ ss) (one_list plans b.end to as_more bs_more (subst (λ n. AreSpans plans n to as_more) end rest) rest')
