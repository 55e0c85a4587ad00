use Rattle.std.proofs.Common.{◌-◌, ◌<◌, subst, sym, ap, arith}
use Rattle.tcel_io.specs.InTurn.{AreTaken, AreCutOff, AreTaken-append, AreCutOff-append, AreCutOff-more}
use Rattle.tcel_machine.specs.Run.{Run}
use Rattle.tcel_trace.specs.Room.{HasRoom}
use Rattle.tcel_tool.specs.Lines.{lines, tick_lines}
use Rattle.tcel_tool.proofs.RunLines.{line_by_line, on_err}
use Rattle.tcel_tool.proofs.run.put_lines.Goals as goal

pub returns-in_err-put_tick-clause-cut_off : goal.returns-in_err-put_tick-clause-cut_off
returns-in_err-put_tick-clause-cut_off g c =
    let now = c.loop-left.machine in
    let next = c.put_tick.new.machine in
    let start = g.K.Sink.seen c.loop-left.out in
    let end = g.K.Sink.seen c.put_tick.new.out in
    on_err c.from_residual.result (AreCutOff (lines c.args.machine.now c.args.ticks) (g.K.Sink.seen c.args.out.now) end)
    (c.loop-left.invariant.cut_off end
    (line_by_line (λ ls. AreCutOff ls start end) now next c.loop-left.left (omega arith) c.put_tick.ensures.run
    (AreCutOff-more (tick_lines now) (lines next (c.loop-left.left - 1)) start end c.in_err-put_tick.ensures.cut_off)))

pub loop-left-preserved : goal.loop-left-preserved
loop-left-preserved g c =
    let now = c.loop-left.machine in
    let next = c.put_tick.new.machine in
    let left = c.loop-left.left in
    let some : 0 < left = omega arith in
    let rest = lines next (left - 1) in
    let start = g.K.Sink.seen c.loop-left.out in
    let middle = g.K.Sink.seen c.put_tick.new.out in
    let one = c.in_ok-put_tick.ensures.taken in
    record {
      short = omega (arith, c.loop-left.invariant.short, ap (λ (run : Run). run.machine.now) c.put_tick.ensures.run);
      room = subst (λ (run : Run). HasRoom c.put_tick.new.buffer.room run.image) (sym c.put_tick.ensures.run) c.put_tick.ensures.room;
      taken =
          λ end h. c.loop-left.invariant.taken end
          (line_by_line (λ ls. AreTaken ls start end) now next left some c.put_tick.ensures.run (AreTaken-append (tick_lines now) rest start middle end one h));
      cut_off =
          λ end h. c.loop-left.invariant.cut_off end
          (line_by_line (λ ls. AreCutOff ls start end) now next left some c.put_tick.ensures.run (AreCutOff-append (tick_lines now) rest start middle end one h));
    }
