use Rattle.std.proofs.Common.{◌∙◌, List, map, ap, subst}
use Rattle.tcel_core.specs.declared.event.Event.{Event}
use Rattle.tcel_core.specs.Evaluation.{IsFrame}
use Rattle.tcel_core.specs.Frames.{state_of}
use Rattle.tcel_core.specs.Meaning.{exec}
use Rattle.tcel_core.specs.Outcome.{Memory}
use Rattle.tcel_core.specs.Plain.{plain_task}
use Rattle.tcel_tool.proofs.MeanFrames.{frame_ran, frame_with, frame_written, sound_tasks_run}
use Rattle.tcel_tool.proofs.mean_text.put_task.Goals as goal

pub frame-requires-clause-variables : goal.frame-requires-clause-variables
frame-requires-clause-variables c = (sound_tasks_run (plain_task c.args.task.now) c.requires).few

pub frame-requires-clause-fits : goal.frame-requires-clause-fits
frame-requires-clause-fits c = (sound_tasks_run (plain_task c.args.task.now) c.requires).fits

pub loop-number-preserved : goal.loop-number-preserved
loop-number-preserved c =
    let task = plain_task c.args.task.now in
    let streams = map (λ list. list.items) c.args.lists.items in
    let n = c.loop-number.number in
    let m : Memory = record { cells = c.loop-number.cells; inputs = c.loop-number.inputs } in
    let cells = c.frame.new.cells in
    let state = state_of task.vars cells in
    let one = subst (λ (es : List Event). IsFrame task es (exec task.body task.vars m) cells c.frame.new.inputs c.frame.new.events.items) c.clear.ensures.items c.in_ok-frame.ensures.ok in
    let ran = frame_ran task streams n m cells c.frame.new.inputs c.frame.new.events.items c.loop-number.invariant.start one c.frame.ensures.words in
    let shows = ap (λ es. frame_with es state) c.deref.ensures.value ∙ ran.shows in
    record {
      start = ran.start;
      words = c.frame.ensures.words;
      text =
          frame_written task streams n (frame_with c.deref.result.now state) c.args.out.now.items c.loop-number.out.items c.put_frame.new.out.items shows c.loop-number.invariant.text c.in_ok-put_frame.ensures;
    }
