use Rattle.std.proofs.Common.{[], refl}
use Rattle.tcel_tool.proofs.SpanExamples.{full-spans, idle-lines, idle-spans, no_idle, no_short, no_split, preempted-lines, preempted-spans}
use Rattle.tcel_tool.proofs.examples.timeline_examples.Goals as goal

pub returns : goal.returns
returns c = record {
  full = full-spans;
  split = no_split;
  not_idle = no_idle;
  short = no_short;
  preempted = preempted-spans;
  idle = idle-spans;
  no_ticks = refl;
  preempted_lines = preempted-lines;
  idle_lines = idle-lines;
  no_lines = record { spans = []; are = refl; is = refl };
}
