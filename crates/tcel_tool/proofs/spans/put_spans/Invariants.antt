use Rattle.std.proofs.Common.{◌≡◌, ◌-◌, ◌≤◌}
use Rattle.std.specs.Prelude.{vec_capacity}
use Rattle.tcel_core.specs.Plain.{plain_set}
use Rattle.tcel_tool.proofs.SpanWalks.{IsAtSpan}
use Rattle.tcel_tool.proofs.spans.put_spans.Given as goal

abbrev pub invariant-loop-span : goal.invariant-loop-span
invariant-loop-span g l = record {
  schedule : l.schedule ≡ record { plans = l.plans; ticks = l.span.end };
  room : 75 ≤ vec_capacity l.line;
  at : IsAtSpan (plain_set l.set) l.plans l.ticks (g.K.Sink.seen l.fn.out) l.span (g.K.Sink.seen l.out);
}

abbrev pub decreases-loop-span : goal.decreases-loop-span
decreases-loop-span g l = l.ticks - l.span.end
