-- Streams as they are collected, line by line: for each input, its values once a line gave them.
use Rattle.std.specs.Prelude.{◌≡◌, ℕ, ℤ, List, [], length, map, position, Option, Some, None, option_map, option_and_then, unwrap_or, Result, Ok, Err, slice_index_or, slice_set, is_some, if◌then◌else◌}
use Rattle.tcel_num.specs.declared.port_row.PortRow.{PortRow}
use Rattle.tcel_script.specs.declared.fail.ScriptFail.{ScriptFail}
use Rattle.tcel_script.specs.declared.fail.ScriptFail.TheVariants.{BadLine, NoPort, PortTwice, Number, NoMemory}
use Rattle.tcel_script.specs.Numbers.{numbers_of}
use Rattle.tcel_script.specs.Lines.{Line, passed, short, stream}
use Rattle.tcel_script.specs.Script.{Streams, same, stream_in}

abbrev pub Row : Type 0
Row = List (Option (List ℤ))

abbrev pub Rows : Type 0
Rows = List Row

-- an input without a line has no values
abbrev pub streams_in : Rows → Streams
streams_in rows = map (map (λ found. unwrap_or found [])) rows

-- what the lines gave so far
abbrev pub rows_of : List PortRow → List Line → Rows
rows_of ports lines = map (λ row. map (λ input. stream_in lines row.task input) row.inputs) ports

-- a place for each input
abbrev pub FitsPorts : List PortRow → Rows → Type 0
FitsPorts ports rows = map length rows ≡ map (λ row. length row.inputs) ports

-- the places of a task and of its input
abbrev pub input_place : List PortRow → List ℕ → ℕ → Option (ℕ × ℕ)
input_place ports port task = option_map (λ place. (task, place)) (position (λ input. same input port) (slice_index_or (map (λ row. row.inputs) ports) task []))

abbrev pub place_of : List PortRow → List ℕ → List ℕ → Option (ℕ × ℕ)
place_of ports task port = option_and_then (input_place ports port) (position (λ row. same row.task task) ports)

-- a task's row with these values at a place, which was empty, or the fault of the line with this number
abbrev pub with_values : ℕ → Row → ℕ → Option (List ℤ) → Result Row ScriptFail
with_values number row place None = Err (Number number)
with_values number row place (Some values) = Ok (slice_set row place (Some values))

abbrev pub with_words : ℕ → Row → ℕ → List (List ℕ) → Result Row ScriptFail
with_words number row place words = if is_some (slice_index_or row place None) then Err (PortTwice number) else with_values number row place (numbers_of words)

-- the rows with this row at a place
abbrev pub put_row : Rows → ℕ → Result Row ScriptFail → Result Rows ScriptFail
put_row rows place (Ok row) = Ok (slice_set rows place row)
put_row rows place (Err fault) = Err fault

abbrev pub with_place : ℕ → Rows → List (List ℕ) → Option (ℕ × ℕ) → Result Rows ScriptFail
with_place number rows words None = Err (NoPort number)
with_place number rows words (Some place) = put_row rows place.0 (with_words number (slice_index_or rows place.0 []) place.1 words)

-- the rows after a line with this number, or its fault
abbrev pub after_line : List PortRow → ℕ → Rows → Line → Result Rows ScriptFail
after_line ports number rows passed = Ok rows
after_line ports number rows short = Err (BadLine number)
after_line ports number rows (stream task port words) = with_place number rows words (place_of ports task port)

-- the answer and what it leaves are those of a line, unless memory ran out
abbrev pub Takes : {X : Type 0} → Result (Unit {0}) ScriptFail → X → Result X ScriptFail → Type 0
Takes (Ok _) left line = line ≡ Ok left
Takes (Err NoMemory) left line = Unit {0}
Takes (Err fault) left line = line ≡ Err fault
