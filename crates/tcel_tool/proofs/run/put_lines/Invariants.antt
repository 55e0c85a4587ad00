use Rattle.std.proofs.Common.{◌≤◌, ◌+◌, ◌^◌}
use Rattle.tcel_io.specs.InTurn.{AreTaken, AreCutOff}
use Rattle.tcel_io.specs.Seen.{Seen}
use Rattle.tcel_tool.specs.Lines.{lines}
use Rattle.tcel_trace.specs.Room.{HasRoom}
use Rattle.tcel_tool.proofs.run.put_lines.Given as goal

-- what the ticks that are left do completes what all of them do
abbrev pub invariant-loop-left : goal.invariant-loop-left
invariant-loop-left g l = record {
  short : l.machine.machine.now + l.left ≤ 10 ^ 12;
  room : HasRoom l.buffer.room l.machine.image;
  taken : (end : Seen) → AreTaken (lines l.machine l.left) (g.K.Sink.seen l.out) end → AreTaken (lines l.fn.machine l.ticks) (g.K.Sink.seen l.fn.out) end;
  cut_off : (end : Seen) → AreCutOff (lines l.machine l.left) (g.K.Sink.seen l.out) end → AreCutOff (lines l.fn.machine l.ticks) (g.K.Sink.seen l.fn.out) end;
}

abbrev pub decreases-loop-left : goal.decreases-loop-left
decreases-loop-left g l = l.left
