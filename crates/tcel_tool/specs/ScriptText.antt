-- The scripts that bytes are, for every command that reads one; and what is refused of bytes that are none.
use Rattle.std.specs.Prelude.{◌≡◌, ◌≢◌, ℕ, List, Err}
use Rattle.tcel_num.specs.declared.port_row.PortRow.{PortRow}
use Rattle.tcel_script.specs.Script.{script_of}
use Rattle.tcel_script.specs.declared.fail.ScriptFail.TheVariants as fails
use Rattle.tcel_tool.specs.declared.status.Status.{Status}
use Rattle.tcel_tool.specs.declared.status.Status.TheVariants.{Script}

-- the most bytes of a script
abbrev pub script_limit : ℕ
script_limit = 16777216

-- the first faulty line of a script for these inputs, with this status
abbrev pub RefusesLines : List PortRow → List ℕ → Status → Type 0
RefusesLines ports lines (Script fail) = (fail ≢ fails.NoMemory) × (script_of ports lines ≡ Err fail)
RefusesLines ports lines _ = ⊥
