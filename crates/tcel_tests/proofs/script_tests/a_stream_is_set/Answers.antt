use Rattle.std.proofs.Common.{◌≡◌, ◌<◌, List, [], length, get_or, map, sym, ap, ◌∙◌, ℤ, arith}
use Rattle.std.proofs.lemmas.List.{get_or-map}
use Rattle.tcel_num.specs.declared.port_row.PortRow.{PortRow}
use Rattle.tcel_tests.proofs.script_tests.a_stream_is_set.Goals as goal

pub set-requires-clause-port : goal.set-requires-clause-port
set-requires-clause-port g c =
    let script = c.in_ok-script.script in
    let same = c.deref.ensures.value in
    let one : 0 < length script = omega (arith, c.in_ok-script.ensures.tasks, ap (λ (ps : List PortRow). length ps) same, c.in_ok-ports.ensures.one) in
    let counts = c.in_ok-script.ensures.streams ∙ ap (map (λ (p : PortRow). length p.inputs)) same ∙ c.in_ok-ports.ensures.input in
    let first = sym (get_or-map (λ (row : List (List ℤ)). length row) script 0 [] 0 one) ∙ ap (λ ns. get_or ns 0 0) counts in
    omega (arith, first)
