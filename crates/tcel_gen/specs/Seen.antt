-- The counters of statements, by the cells of a task.
use Rattle.std.specs.Prelude.{ℕ, Bool, if◌then◌else◌}
use Rattle.tcel_core.specs.Plain.{plain_body}
use Rattle.tcel_code.specs.Counters.{Counters, counters_of, in_order}
use Rattle.tcel_gen.specs.declared.cells.Cells.{Cells}

-- in a loop from this cell on, and outside loops by item
abbrev pub counters_at : Cells → Bool → ℕ → Counters
counters_at cells in_loop next = if in_loop then in_order next else counters_of (plain_body cells.firsts) cells.places
