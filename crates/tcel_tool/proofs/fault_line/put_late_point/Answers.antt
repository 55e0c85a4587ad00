use Rattle.std.proofs.Common.{◌∙◌, ap}
use Rattle.std.specs.Fmt.{decimal}
use Rattle.tcel_num.specs.Lateness.{Lateness}
use Rattle.tcel_tool.proofs.FaultLines.{late_put}
use Rattle.tcel_tool.proofs.fault_line.put_late_point.Goals as goal

pub returns : goal.returns
returns g c =
    late_put c.args.late c.args.task.now c.args.word.now c.args.number.now c.as_bytes.result.now c.as_bytes-2.result.now c.as_bytes-3.result.now
    (g.K.Sink.seen c.args.err.now) (g.K.Sink.seen c.put_all.new.sink) c.requires.word c.requires.number (c.as_bytes.ensures.value ∙ c.format.ensures.text ∙ ap (λ (l : Lateness). decimal l.frame) c.late.view_is)
    (c.as_bytes-2.ensures.value ∙ c.format-2.ensures.text ∙ ap (λ (l : Lateness). decimal l.response) c.late.view_is) (c.as_bytes-3.ensures.value ∙ c.format-3.ensures.text ∙ ap (λ (l : Lateness). decimal l.bound) c.late.view_is) c.put_all.ensures
