use Rattle.std.proofs.Common.{◌∙◌, [], arith}
use Rattle.std.specs.Prelude.{slice_index_or}
use Rattle.tcel_core.specs.Plain.{plain_task}
use Rattle.tcel_judge.proofs.Runs.{first_start}
use Rattle.tcel_judge.proofs.course.Course.new.Goals as goal

pub returns-clause-stands : goal.returns-clause-stands
returns-clause-stands c =
    let task = plain_task c.args.task.now in
    let streams = slice_index_or c.args.script.now c.args.number [] in
    let start = first_start task c.in_ok-cells.cells c.in_ok-inputs.inputs streams c.in_ok-cells.ensures.state (c.in_ok-inputs.ensures ∙ c.in_ok-lists.ensures) in
    let ran = c.in_ok-next_frame.ensures.ran streams 0 start in
    record {
      sound = c.requires.sound;
      events = ran.0;
      next = ran.1;
      words = c.next_frame.ensures.words;
      within = omega arith;
    }
