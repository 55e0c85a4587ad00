-- The streams of a script, or its first fault.
use Rattle.std.specs.Prelude.{◌≡◌, ℕ, ◌+◌, ℤ, pos, Bool, false, not, ◌&&◌, nat_eq, is_none, if◌then◌else◌, List, [], ◌∷◌, length, map, take, find, Option, Some, None, option_map, unwrap_or, Result, Ok, Err, slice_index_or, slice_set}
use Rattle.std.specs.List.{list_any, range_with_len}
use Rattle.std.specs.Cmp.Lexicographic.{pointwise}
use Rattle.tcel_num.specs.declared.port_row.PortRow.{PortRow}
use Rattle.tcel_script.specs.declared.fail.ScriptFail.{ScriptFail}
use Rattle.tcel_script.specs.declared.fail.ScriptFail.TheVariants.{BadLine, NoPort, PortTwice, Number, NoMemory}
use Rattle.tcel_script.specs.Numbers.{numbers_of}
use Rattle.tcel_script.specs.Lines.{Line, passed, short, stream, script_lines}

-- the streams of all tasks: for each task, for each of its inputs, its values
abbrev pub Streams : Type 0
Streams = List (List (List ℤ))

-- two names are one
abbrev pub same : List ℕ → List ℕ → Bool
same a b = pointwise nat_eq a b

-- the inputs of a task, and none where there is no such task
abbrev pub inputs_of : List PortRow → List ℕ → List (List ℕ)
inputs_of ports task = unwrap_or (option_map (λ row. row.inputs) (find (λ row. same row.task task) ports)) []

abbrev pub has_port : List PortRow → List ℕ → List ℕ → Bool
has_port ports task port = list_any (λ input. same input port) (inputs_of ports task)

-- the line is that of this input
abbrev pub is_for : List ℕ → List ℕ → Line → Bool
is_for task port (stream t p words) = same t task && same p port
is_for task port _ = false

-- the fault of a line with this number, behind these lines
abbrev pub fault_behind : List PortRow → ℕ → List Line → Line → Option ScriptFail
fault_behind ports number earlier passed = None
fault_behind ports number earlier short = Some (BadLine number)
fault_behind ports number earlier (stream task port words) =
    if not (has_port ports task port) then Some (NoPort number)
    else (if list_any (is_for task port) earlier then Some (PortTwice number)
    else (if is_none (numbers_of words) then Some (Number number) else None))

-- the fault of the line at this place, from 0: lines are numbered from 1
abbrev pub fault_at : List PortRow → List Line → ℕ → Option ScriptFail
fault_at ports lines place = fault_behind ports (place + 1) (take place lines) (slice_index_or lines place passed)

abbrev pub first_fault : {E : Type 0} → List (Option E) → Option E
first_fault [] = None
first_fault (None ∷ more) = first_fault more
first_fault (Some fault ∷ more) = Some fault

-- the values of a line
abbrev pub values_of : Line → List ℤ
values_of (stream task port words) = unwrap_or (numbers_of words) []
values_of _ = []

-- the values that the lines give to an input, if one of them is for it
abbrev pub stream_in : List Line → List ℕ → List ℕ → Option (List ℤ)
stream_in lines task port = option_map values_of (find (is_for task port) lines)

-- the streams of all inputs, empty where no line is for one
abbrev pub streams_of : List PortRow → List Line → Streams
streams_of ports lines = map (λ row. map (λ input. unwrap_or (stream_in lines row.task input) []) row.inputs) ports

abbrev pub unless_fault : {X E : Type 0} → Option E → X → Result X E
unless_fault None said = Ok said
unless_fault (Some fault) said = Err fault

-- what a script says for these ports: its streams, or its first fault
abbrev pub script_of : List PortRow → List ℕ → Result Streams ScriptFail
script_of ports bytes =
    let lines = script_lines bytes in
    let faults = map (fault_at ports lines) (range_with_len 0 (length lines)) in
    unless_fault (first_fault faults) (streams_of ports lines)

-- a stream for each input of these ports
abbrev pub HasStreams : List PortRow → Streams → Type 0
HasStreams ports streams = map length streams ≡ map (λ (row : PortRow). length row.inputs) ports

-- the answer is what the script says, unless memory ran out
abbrev pub Reads : Result Streams ScriptFail → Result Streams ScriptFail → Type 0
Reads (Ok streams) script = script ≡ Ok streams
Reads (Err NoMemory) script = Unit {0}
Reads (Err fault) script = script ≡ Err fault

-- a value of a stream, from 0, and 0 where there is none
abbrev pub value_at : Streams → ℕ → ℕ → ℕ → ℤ
value_at streams task port n = slice_index_or (slice_index_or (slice_index_or streams task []) port []) n (pos 0)

-- these values are the whole stream of an input of a task
abbrev pub with_stream : Streams → ℕ → ℕ → List ℤ → Streams
with_stream streams task port values = slice_set streams task (slice_set (slice_index_or streams task []) port values)
