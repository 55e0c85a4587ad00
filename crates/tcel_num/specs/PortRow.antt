-- The tasks and inputs of a program or an image, by name.
use Rattle.std.specs.Prelude.{◌≢◌, List, map, All, AllPairs}
use Rattle.tcel_num.specs.declared.port_row.PortRow.{PortRow}

-- no two tasks have one name, and no two inputs of one task
pub record HaveDistinctNames (rows : List PortRow) : Type 0 where
  pub tasks : AllPairs ◌≢◌ (map (λ row. row.task) rows)
  pub inputs : All (λ row. AllPairs ◌≢◌ row.inputs) rows
