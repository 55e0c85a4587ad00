use Rattle.std.proofs.Common.{refl, arith}
use Rattle.std.proofs.lemmas.Result.{on_err_weaker, on_ok_weaker}
use Rattle.tcel_core.specs.Plain.{plain_set}
use Rattle.tcel_io.specs.InTurn.{AreCutOff}
use Rattle.tcel_tool.specs.Spans.{ArePutFor}
use Rattle.tcel_tool.proofs.RunLines.{on_err}
use Rattle.tcel_tool.proofs.SpanWalks.{all_taken, at_first_span, at_next_span, cut_off_at, last_cut_off, next_end, tick_later, tick_serves}
use Rattle.tcel_tool.proofs.spans.put_spans.Goals as goal

pub loop-span-init : goal.loop-span-init
loop-span-init g c =
    let plans = c.args.plans.now in
    let schedule = c.new-schedule.result in
    let task = c.tick.result in
    record {
      schedule = tick_later schedule c.tick.new.self plans 0 1 c.new-schedule.ensures c.tick.ensures.after refl;
      room = c.requires.room;
      at =
          at_first_span (plain_set c.args.set.now) plans c.args.ticks (g.K.Sink.seen c.args.out.now) task (omega arith)
          (tick_serves schedule plans 0 task c.new-schedule.ensures c.tick.ensures.served c.tick.ensures.idle);
    }

pub returns-in_err-span-clause-cut_off : goal.returns-in_err-span-clause-cut_off
returns-in_err-span-clause-cut_off g c =
    let plans = c.args.plans.now in
    let set = plain_set c.args.set.now in
    let span = c.loop-span.span in
    let task = c.tick-task.result in
    let start = g.K.Sink.seen c.args.out.now in
    let end = g.K.Sink.seen c.advance.new.out in
    let serves = tick_serves c.loop-span.schedule plans span.end task c.loop-span.invariant.schedule c.tick-task.ensures.served c.tick-task.ensures.idle in
    on_err c.from_residual.result (ArePutFor AreCutOff set plans 0 c.args.ticks start end)
    (cut_off_at set plans c.args.ticks start span (g.K.Sink.seen c.loop-span.out) c.loop-span.invariant.at task end serves
    c.in_err-span.ensures.other c.in_err-span.ensures.cut_off)

pub loop-span-preserved : goal.loop-span-preserved
loop-span-preserved g c =
    let plans = c.args.plans.now in
    let set = plain_set c.args.set.now in
    let span = c.loop-span.span in
    let next = c.in_ok-span.span in
    let task = c.tick-task.result in
    let out = g.K.Sink.seen c.loop-span.out in
    let after = g.K.Sink.seen c.advance.new.out in
    let is = c.loop-span.invariant.schedule in
    let advances = c.in_ok-span.ensures.advances in
    let serves = tick_serves c.loop-span.schedule plans span.end task is c.tick-task.ensures.served c.tick-task.ensures.idle in
    record {
      schedule =
          tick_later c.loop-span.schedule c.tick-task.new.self plans span.end next.end is c.tick-task.ensures.after
          (next_end set span task next out after advances);
      room = c.advance.ensures.room;
      at =
          at_next_span set plans c.args.ticks (g.K.Sink.seen c.args.out.now) span out c.loop-span.invariant.at task next after
          c.loop-span-test.true serves advances;
    }

pub returns-clause-taken : goal.returns-clause-taken
returns-clause-taken g c =
    on_ok_weaker c.put_span.result
    (all_taken (plain_set c.args.set.now) c.args.plans.now c.args.ticks (g.K.Sink.seen c.args.out.now) c.loop-span.span (g.K.Sink.seen c.loop-span.out)
    c.loop-span.invariant.at (g.K.Sink.seen c.put_span.new.out) c.loop-span-test.false)
    c.put_span.ensures.taken

pub returns-clause-cut_off : goal.returns-clause-cut_off
returns-clause-cut_off g c =
    on_err_weaker c.put_span.result
    (last_cut_off (plain_set c.args.set.now) c.args.plans.now c.args.ticks (g.K.Sink.seen c.args.out.now) c.loop-span.span
    (g.K.Sink.seen c.loop-span.out) c.loop-span.invariant.at (g.K.Sink.seen c.put_span.new.out) c.loop-span-test.false)
    c.put_span.ensures.cut_off
