use Rattle.std.proofs.Common.{inl, inr, subst}
use Rattle.tcel_tool.specs.Answer.{OrMemory}
use Rattle.tcel_tool.specs.Lines.{lines}
use Rattle.tcel_tool.specs.ScriptText.{RefusesLines}
use Rattle.tcel_verify.specs.Ports.{port_rows}
use Rattle.tcel_tool.specs.declared.status.Status.TheVariants as statuses
use Rattle.tcel_tool.proofs.Exits.{at_end, at_write_fault, cut_off, ended, stops, taken}
use Rattle.tcel_tool.proofs.RunStages.{behind_image, behind_script, faulty_lines, lines_are, read_image}
use Rattle.tcel_tool.proofs.run.run.Goals as goal

pub returns-in_err-script-clause-goes : goal.returns-in_err-script-clause-goes
returns-in_err-script-clause-goes g c =
    let read = read_image c.deref.result.now c.in_ok-ticks.ensures.few c.in_ok-bytes.ensures.loaded c.deref.ensures.value c.in_ok-ready.ensures.image c.in_ok-text.ensures.loaded in
    let out = g.K.Sink.seen c.args.out.now in
    let exit = c.from_residual-in_err-script in
    let end = ended (g.H.Shelf.seen c.load-2.new.shelf) out out exit.result in
    let status = c.in_err-script.field-0.0 in
    let cause = subst (λ t. OrMemory (RefusesLines (port_rows c.in_ok-ready.ready) t) status) c.deref-2.ensures.value c.in_err-script.ensures.refusal in
    behind_image end read (inl (stops exit.result status exit.ensures.1 (faulty_lines end read status cause), tt))

pub returns-in_err-put_lines-clause-goes : goal.returns-in_err-put_lines-clause-goes
returns-in_err-put_lines-clause-goes g c =
    let read = read_image c.deref.result.now c.in_ok-ticks.ensures.few c.in_ok-bytes.ensures.loaded c.deref.ensures.value c.in_ok-ready.ensures.image c.in_ok-text.ensures.loaded in
    let exit = c.from_residual-in_err-put_lines in
    let end = ended (g.H.Shelf.seen c.load-2.new.shelf) (g.K.Sink.seen c.args.out.now) (g.K.Sink.seen c.put_lines.new.out) exit.result in
    let machine = c.in_ok-machine.machine in
    let ticks = c.in_ok-ticks.ticks in
    let text = lines_are end read c.deref-2.result.now c.deref-2.ensures.value c.in_ok-script.ensures.streams machine ticks c.in_ok-machine.ensures c.in_ok-ticks.ensures.value in
    behind_script end read c.deref-2.result.now c.deref-2.ensures.value c.in_ok-script.ensures.streams
    (inr (cut_off (lines machine ticks) exit.result text exit.ensures.1 c.in_err-put_lines.ensures.cut_off))

pub returns-clause-goes : goal.returns-clause-goes
returns-clause-goes g c =
    let read = read_image c.deref.result.now c.in_ok-ticks.ensures.few c.in_ok-bytes.ensures.loaded c.deref.ensures.value c.in_ok-ready.ensures.image c.in_ok-text.ensures.loaded in
    let end = at_end (g.H.Shelf.seen c.load-2.new.shelf) (g.K.Sink.seen c.args.out.now) (g.K.Sink.seen c.put_lines.new.out) statuses.Ok in
    let machine = c.in_ok-machine.machine in
    let ticks = c.in_ok-ticks.ticks in
    let text = lines_are end read c.deref-2.result.now c.deref-2.ensures.value c.in_ok-script.ensures.streams machine ticks c.in_ok-machine.ensures c.in_ok-ticks.ensures.value in
    behind_script end read c.deref-2.result.now c.deref-2.ensures.value c.in_ok-script.ensures.streams (inr (taken (lines machine ticks) text c.in_ok-put_lines.ensures.taken))

pub returns-in_err-put_lines-clause-untouched : goal.returns-in_err-put_lines-clause-untouched
returns-in_err-put_lines-clause-untouched g c = inl (at_write_fault c.from_residual-in_err-put_lines.result c.from_residual-in_err-put_lines.ensures.1)
