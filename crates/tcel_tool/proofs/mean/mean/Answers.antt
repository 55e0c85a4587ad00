use Rattle.std.proofs.Common.{inl, inr, refl, subst}
use Rattle.std.specs.Prelude.{map, string_bytes}
use Rattle.tcel_core.specs.Plain.{plain_set}
use Rattle.tcel_tool.specs.Answer.{OrMemory}
use Rattle.tcel_tool.specs.MeanText.{pieces_of}
use Rattle.tcel_tool.specs.ProgramText.{RefusesText}
use Rattle.tcel_tool.specs.declared.status.Status.TheVariants as statuses
use Rattle.tcel_tool.proofs.Checkable.{text_is_checkable}
use Rattle.tcel_tool.proofs.Exits.{at_end, at_load, at_write_fault, cut_off, ended, stops, taken}
use Rattle.tcel_tool.proofs.MeanStages.{behind_lines, behind_program, behind_script, behind_set, faulty, faulty_lines, pieces_are, read_program}
use Rattle.tcel_tool.proofs.mean.mean.Goals as goal

pub script_of-requires-clause-sound : goal.script_of-requires-clause-sound
script_of-requires-clause-sound g c = c.in_ok-set.ensures.sound (text_is_checkable c.in_ok-program.ensures.program)

pub mean_text-requires-clause-sound : goal.mean_text-requires-clause-sound
mean_text-requires-clause-sound g c = c.in_ok-set.ensures.sound (text_is_checkable c.in_ok-program.ensures.program)

pub returns-in_err-program-clause-goes : goal.returns-in_err-program-clause-goes
returns-in_err-program-clause-goes g c =
    let exit = c.from_residual-in_err-program in
    let given = c.in_err-program.field-0.0 in
    let cause = subst (λ t. OrMemory (RefusesText t) given) c.deref.ensures.value c.in_err-program.ensures.refusal in
    inr (
      c.in_ok-frames.ensures.few,
      inr (c.in_ok-text.text.items, g.H.Shelf.seen c.load.new.shelf, c.in_ok-text.ensures.loaded, inl (stops exit.result given exit.ensures.1 cause, tt)),
    )

pub returns-in_err-set-clause-goes : goal.returns-in_err-set-clause-goes
returns-in_err-set-clause-goes g c =
    let read = read_program c.deref.result.now c.in_ok-frames.ensures.few c.in_ok-text.ensures.loaded c.deref.ensures.value c.in_ok-program.ensures.program in
    let out = g.K.Sink.seen c.args.out.now in
    let exit = c.from_residual-in_err-set in
    let end = ended (g.H.Shelf.seen c.load.new.shelf) out out exit.result in
    let given = c.in_err-set.field-0.0 in
    behind_program end read (inl (stops exit.result given exit.ensures.1 (faulty end read given c.in_err-set.ensures.refusal), tt))

pub returns-in_err-lines-clause-goes : goal.returns-in_err-lines-clause-goes
returns-in_err-lines-clause-goes g c =
    let read = read_program c.deref.result.now c.in_ok-frames.ensures.few c.in_ok-text.ensures.loaded c.deref.ensures.value c.in_ok-program.ensures.program in
    let out = g.K.Sink.seen c.args.out.now in
    let exit = c.from_residual-in_err-lines in
    let next = g.H.Shelf.seen c.load.new.shelf in
    let last = g.H.Shelf.seen c.load-2.new.shelf in
    let end = ended last out out exit.result in
    let words = map string_bytes c.args.words.now in
    let stopped = at_load words 2 16777216 next last exit.result c.in_err-lines.field-0.0 exit.ensures.1 c.in_err-lines.ensures.stopped in
    behind_set end read c.in_ok-set.ensures.free (inl (stopped, refl))

pub returns-in_err-script-clause-goes : goal.returns-in_err-script-clause-goes
returns-in_err-script-clause-goes g c =
    let read = read_program c.deref.result.now c.in_ok-frames.ensures.few c.in_ok-text.ensures.loaded c.deref.ensures.value c.in_ok-program.ensures.program in
    let out = g.K.Sink.seen c.args.out.now in
    let exit = c.from_residual-in_err-script in
    let end = ended (g.H.Shelf.seen c.load-2.new.shelf) out out exit.result in
    let given = c.in_err-script.field-0.0 in
    let free = c.in_ok-set.ensures.free in
    let second = c.in_ok-lines.ensures.loaded in
    let cause = faulty_lines end read free second (plain_set c.in_ok-set.set) c.in_ok-set.ensures.set c.deref-2.result.now c.deref-2.ensures.value given c.in_err-script.ensures.refusal in
    behind_lines end read free second (inl (stops exit.result given exit.ensures.1 cause, tt))

pub returns-in_err-frames_text-clause-goes : goal.returns-in_err-frames_text-clause-goes
returns-in_err-frames_text-clause-goes g c =
    let read = read_program c.deref.result.now c.in_ok-frames.ensures.few c.in_ok-text.ensures.loaded c.deref.ensures.value c.in_ok-program.ensures.program in
    let out = g.K.Sink.seen c.args.out.now in
    let exit = c.from_residual-in_err-frames_text in
    let end = ended (g.H.Shelf.seen c.load-2.new.shelf) out out exit.result in
    behind_script end read c.in_ok-set.ensures.free c.in_ok-lines.ensures.loaded (plain_set c.in_ok-set.set) c.in_ok-set.ensures.set c.deref-2.result.now c.deref-2.ensures.value
    c.in_ok-script.ensures.streams (inl (stops exit.result statuses.NoMemory exit.ensures.1 refl))

pub returns-in_err-put_text-clause-goes : goal.returns-in_err-put_text-clause-goes
returns-in_err-put_text-clause-goes g c =
    let read = read_program c.deref.result.now c.in_ok-frames.ensures.few c.in_ok-text.ensures.loaded c.deref.ensures.value c.in_ok-program.ensures.program in
    let exit = c.from_residual-in_err-put_text in
    let end = ended (g.H.Shelf.seen c.load-2.new.shelf) (g.K.Sink.seen c.args.out.now) (g.K.Sink.seen c.put_text.new.out) exit.result in
    let free = c.in_ok-set.ensures.free in
    let second = c.in_ok-lines.ensures.loaded in
    let set = plain_set c.in_ok-set.set in
    let frames = c.in_ok-frames.frames in
    let shown = c.deref-3.result.now in
    let text =
    pieces_are end read free second set c.in_ok-set.ensures.set c.deref-2.result.now c.deref-2.ensures.value c.in_ok-script.ensures.streams frames c.in_ok-frames_text.frames_text.items shown
    c.in_ok-frames.ensures.value c.in_ok-frames_text.ensures c.deref-3.ensures.value in
    behind_script end read free second set c.in_ok-set.ensures.set c.deref-2.result.now c.deref-2.ensures.value c.in_ok-script.ensures.streams
    (inr (cut_off (pieces_of frames shown) exit.result text exit.ensures.1 c.in_err-put_text.ensures.cut_off))

pub returns-clause-goes : goal.returns-clause-goes
returns-clause-goes g c =
    let read = read_program c.deref.result.now c.in_ok-frames.ensures.few c.in_ok-text.ensures.loaded c.deref.ensures.value c.in_ok-program.ensures.program in
    let end = at_end (g.H.Shelf.seen c.load-2.new.shelf) (g.K.Sink.seen c.args.out.now) (g.K.Sink.seen c.put_text.new.out) statuses.Ok in
    let free = c.in_ok-set.ensures.free in
    let second = c.in_ok-lines.ensures.loaded in
    let set = plain_set c.in_ok-set.set in
    let frames = c.in_ok-frames.frames in
    let shown = c.deref-3.result.now in
    let text =
    pieces_are end read free second set c.in_ok-set.ensures.set c.deref-2.result.now c.deref-2.ensures.value c.in_ok-script.ensures.streams frames c.in_ok-frames_text.frames_text.items shown
    c.in_ok-frames.ensures.value c.in_ok-frames_text.ensures c.deref-3.ensures.value in
    behind_script end read free second set c.in_ok-set.ensures.set c.deref-2.result.now c.deref-2.ensures.value c.in_ok-script.ensures.streams
    (inr (taken (pieces_of frames shown) text c.in_ok-put_text.ensures.taken))

pub returns-in_err-put_text-clause-untouched : goal.returns-in_err-put_text-clause-untouched
returns-in_err-put_text-clause-untouched g c = inl (at_write_fault c.from_residual-in_err-put_text.result c.from_residual-in_err-put_text.ensures.1)
