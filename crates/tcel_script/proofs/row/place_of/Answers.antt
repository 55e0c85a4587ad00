use Rattle.std.proofs.Common.{sym, ◌∙◌}
use Rattle.tcel_script.proofs.Places.{no_input}
use Rattle.tcel_script.proofs.row.place_of.Goals as goal

pub returns-in_err-place : goal.returns-in_err-place
returns-in_err-place c =
    c.from_residual-in_err-place.ensures
    ∙ sym (no_input c.args.ports.now c.args.task.now c.args.port.now c.in_ok-row.row c.index-ports-row.result c.as_slice.result.now (sym c.task_place.ensures ∙ c.in_ok-row.was) c.as_slice.ensures (sym c.in_err-place.ensures))
