use Rattle.std.proofs.Common.{◌<◌, ap, [], arith, length}
use Rattle.std.proofs.lemmas.List.{get_or_read, length-map}
use Rattle.std.specs.Prelude.{map, unwrap_or}
use Rattle.tcel_script.proofs.Places.{stream_set}
use Rattle.tcel_script.proofs.script.Script.set.Goals as goal

pub returns-clause-ok : goal.returns-clause-ok
returns-clause-ok c =
    let rows = c.self.inside.rows.items in
    let task = c.args.task in
    let within : task < length rows = omega (arith, c.requires.task, ap length c.self.view_is, length-map rows (map (λ found. unwrap_or found []))) in
    let row = get_or_read rows task c.index_mut.result.now within c.index_mut.ensures.value [] in
    stream_set rows c.args.self.now task c.args.port c.index_mut.result.now c.set.new.self c.in_ok-stream.stream c.args.values.now within c.self.view_is row c.set.ensures c.in_ok-stream.ensures
