-- The inputs of a set.
use Rattle.std.specs.Prelude.{List, map}
use Rattle.tcel_num.specs.declared.port_row.PortRow.{PortRow}
use Rattle.tcel_core.specs.Language.{Task}

-- a task's name and inputs
abbrev pub port_row : Task → PortRow
port_row task = record { task = task.name; inputs = task.inputs }

-- a row for each task, in order
abbrev pub port_rows : List Task → List PortRow
port_rows tasks = map port_row tasks
