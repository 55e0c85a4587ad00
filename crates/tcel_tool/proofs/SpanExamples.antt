-- Worked timelines, computed.
use Rattle.std.proofs.Common.{◌≡◌, List, length, refl, ap}
use Rattle.std.specs.Fmt.{digits}
use Rattle.std.specs.Prelude.{map}
use Rattle.tcel_tool.specs.SpanExamples.{full, full_idle, full_short, full_spans, full_split, idle, idle_lines, idle_spans, preempted, preempted_lines, preempted_spans, set}
use Rattle.tcel_tool.specs.Spans.{AreLines, AreSpans, span_line}
use Rattle.tcel_tool.specs.declared.spans.Span.{Span}
use Rattle.tcel_tool.proofs.SpanLaws.{are_spans, one_list}

pub full-spans : AreSpans full 0 6 full_spans
full-spans = are_spans full 0 6 6 refl

pub preempted-spans : AreSpans preempted 0 16 preempted_spans
preempted-spans = are_spans preempted 0 16 16 refl

pub idle-spans : AreSpans idle 0 9 idle_spans
idle-spans = are_spans idle 0 9 9 refl

-- other lists are none
pub no_split : AreSpans full 0 6 full_split → ⊥
no_split h = absurd (let e = one_list full 0 6 full_split full_spans h full-spans in let long : 5 ≡ 4 = ap (λ (ss : List Span). length ss) e in cc)

pub no_idle : AreSpans full 0 6 full_idle → ⊥
no_idle h =
    absurd (
    let e = one_list full 0 6 full_idle full_spans h full-spans in
    let tasks : map (λ (s : Span). s.task) full_idle ≡ map (λ (s : Span). s.task) full_spans = ap (λ (ss : List Span). map (λ (s : Span). s.task) ss) e in
    cc
    )

pub no_short : AreSpans full 0 6 full_short → ⊥
no_short h = absurd (let e = one_list full 0 6 full_short full_spans h full-spans in let long : 3 ≡ 4 = ap (λ (ss : List Span). length ss) e in cc)

shown : preempted_lines ≡ map (span_line set) preempted_spans
unfolding digits
shown = refl

pub preempted-lines : AreLines set preempted 0 16 preempted_lines
preempted-lines = record { spans = preempted_spans; are = preempted-spans; is = shown }

idle_shown : idle_lines ≡ map (span_line set) idle_spans
unfolding digits
idle_shown = refl

pub idle-lines : AreLines set idle 0 9 idle_lines
idle-lines = record { spans = idle_spans; are = idle-spans; is = idle_shown }
