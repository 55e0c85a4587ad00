use Rattle.std.proofs.Common.{◌≡◌, [], get_or, sym, ◌∙◌}
use Rattle.std.proofs.lemmas.List.{get_or_read}
use Rattle.tcel_script.proofs.Found.{place_inside}
use Rattle.tcel_script.proofs.row.take_line.Goals as goal

pub take_values-requires : goal.take_values-requires
take_values-requires c =
    let inside = place_inside c.args.ports.now c.args.rows.now.items c.in-Some.task.now c.in-Some-next_word.port.now (c.in-Some-place_of.row, c.in-Some-place_of.place) c.requires (sym c.place_of.ensures ∙ c.in-Some-place_of.is) in
    let row : c.index_mut.result.now ≡ get_or c.args.rows.now.items c.in-Some-place_of.row [] = get_or_read c.args.rows.now.items c.in-Some-place_of.row c.index_mut.result.now inside.0 c.index_mut.ensures.value [] in
    rw row inside.1
