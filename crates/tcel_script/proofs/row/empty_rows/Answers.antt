use Rattle.std.proofs.Common.{◌≡◌, map, get_or, None, ap, ◌∙◌}
use Rattle.std.proofs.lemmas.List.{take_more, map_push}
use Rattle.tcel_num.specs.declared.port_row.PortRow.{PortRow}
use Rattle.tcel_script.specs.Rows.{Row}
use Rattle.tcel_script.proofs.row.empty_rows.Goals as goal

pub loop-row-preserved : goal.loop-row-preserved
loop-row-preserved c =
    let empty : PortRow → Row = λ row. map (λ _. None) row.inputs in
    let row = c.in_ok-empty_row.ensures in
    let inputs : c.as_slice.result.now ≡ (get_or c.args.ports.now c.loop-row.row-index c.row-item.result).inputs = c.as_slice.ensures ∙ ap (λ (r : PortRow). r.inputs) c.row-item.is in
    rw (take_more c.args.ports.now c.loop-row.row-index c.row-item.result c.loop-row-test.true, map_push, ← c.loop-row.invariant, ← inputs, ← row) c.in_ok-push.ensures.items
