use Rattle.std.proofs.Common.{◌≡◌, IfOk, map, subst}
use Rattle.tcel_core.specs.Plain.{plain_set, plain_task}
use Rattle.tcel_core.specs.Ports.{port_row}
use Rattle.tcel_core.proofs.SoundPorts.{distinct_ports}
use Rattle.tcel_core.proofs.set.Set.ports.Goals as goal

pub returns-clause-distinct : goal.returns-clause-distinct
returns-clause-distinct c sound =
    let rows = subst (λ tasks. IfOk c.rows_of.result (λ rows. rows.items ≡ map port_row (map plain_task tasks))) c.as_slice.ensures c.rows_of.ensures in
    distinct_ports (plain_set c.args.self.now) c.rows_of.result rows sound
