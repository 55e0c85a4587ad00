-- The links of a text for the tasks of a set, or its first fault.
use Rattle.std.specs.Prelude.{◌≡◌, ℕ, ◌+◌, ◌==◌, Bool, false, ◌&&◌, ◌++◌, if◌then◌else◌, List, [], length, map, take, filter_map, position, Option, Some, None, option_map, option_and_then, option_to_list, Result, Ok, Err, slice_index_or}
use Rattle.std.specs.List.{list_any, range_with_len}
use Rattle.tcel_core.specs.Language.{Task, done}
use Rattle.tcel_link.specs.declared.fail.LinkFail.{LinkFail}
use Rattle.tcel_link.specs.declared.fail.LinkFail.TheVariants.{BadLine, NoOutput, NoInput, InputTwice, InLoop, NoMemory}
use Rattle.tcel_link.specs.declared.link.Link.{Link}
use Rattle.tcel_link.specs.declared.port.Port.{Port}
use Rattle.tcel_link.specs.Lines.{Line, passed, bad, linked, link_lines}
use Rattle.tcel_link.specs.Receives.{receives_in_loop}
use Rattle.tcel_script.specs.Script.{first_fault, same, unless_fault}

-- a task that has nothing and does nothing
abbrev pub no_task : Task
no_task = record { name = []; priority = 0; period = 0; deadline = 0; vars = []; inputs = []; outputs = []; body = done }

-- the task of a number
abbrev pub task_at : List Task → ℕ → Task
task_at tasks number = slice_index_or tasks number no_task

-- the port of this name among these of the task of this number
abbrev pub port_of_task : (Task → List (List ℕ)) → List Task → List ℕ → ℕ → Option Port
port_of_task ports tasks port number =
    option_map (λ place. record { task = number; port = place }) (position (λ name. same name port) (ports (task_at tasks number)))

-- the port of these names
abbrev pub port_of : (Task → List (List ℕ)) → List Task → List ℕ → List ℕ → Option Port
port_of ports tasks name port = option_and_then (port_of_task ports tasks port) (position (λ (task : Task). same task.name name) tasks)

abbrev pub output_of : List Task → List ℕ → List ℕ → Option Port
output_of = port_of (λ task. task.outputs)

abbrev pub input_of : List Task → List ℕ → List ℕ → Option Port
input_of = port_of (λ task. task.inputs)

-- the link leads to this input of a task
abbrev pub feeds : ℕ → ℕ → Link → Bool
feeds number input link = link.to == number && link.input == input

abbrev pub link_between : Option Port → Option Port → Option Link
link_between (Some output) (Some input) = Some (record { from = output.task; output = output.port; to = input.task; input = input.port })
link_between _ _ = None

-- the link of a line, where there are such ports
abbrev pub link_of : List Task → Line → Option Link
link_of tasks (linked from output to input) = link_between (output_of tasks from output) (input_of tasks to input)
link_of tasks _ = None

abbrev pub links_of : List Task → List Line → List Link
links_of tasks lines = filter_map (link_of tasks) lines

-- the fault of a line with this number that links these ports, behind these links
abbrev pub fault_between : List Task → ℕ → List Link → Option Port → Option Port → Option LinkFail
fault_between tasks number earlier None input = Some (NoOutput number)
fault_between tasks number earlier (Some output) None = Some (NoInput number)
fault_between tasks number earlier (Some output) (Some input) =
    if list_any (feeds input.task input.port) earlier then Some (InputTwice number)
    else (if receives_in_loop (task_at tasks input.task).body input.port false then Some (InLoop number) else None)

-- the fault of a line with this number, behind these links
abbrev pub fault_behind : List Task → ℕ → List Link → Line → Option LinkFail
fault_behind tasks number earlier passed = None
fault_behind tasks number earlier bad = Some (BadLine number)
fault_behind tasks number earlier (linked from output to input) = fault_between tasks number earlier (output_of tasks from output) (input_of tasks to input)

-- the fault of the line at this place, from 0: lines are numbered from 1
abbrev pub fault_at : List Task → List Line → ℕ → Option LinkFail
fault_at tasks lines place = fault_behind tasks (place + 1) (links_of tasks (take place lines)) (slice_index_or lines place passed)

-- what a text says for these tasks: its links, or its first fault
abbrev pub links_in : List Task → List ℕ → Result (List Link) LinkFail
links_in tasks bytes =
    let lines = link_lines bytes in
    let faults = map (fault_at tasks lines) (range_with_len 0 (length lines)) in
    unless_fault (first_fault faults) (links_of tasks lines)

-- the answer is what the text says, unless memory ran out
abbrev pub Reads : Result (List Link) LinkFail → Result (List Link) LinkFail → Type 0
Reads (Ok links) text = text ≡ Ok links
Reads (Err NoMemory) text = Unit {0}
Reads (Err fault) text = text ≡ Err fault

-- the links behind these and a line with this number, or its fault
abbrev pub after_line : List Task → ℕ → List Link → Line → Result (List Link) LinkFail
after_line tasks number links line = unless_fault (fault_behind tasks number links line) (links ++ option_to_list (link_of tasks line))

-- the same for a line with this number that links these ports
abbrev pub behind_link : List Task → ℕ → List Link → Port → Port → Result (List Link) LinkFail
behind_link tasks number links output input =
    unless_fault (fault_between tasks number links (Some output) (Some input)) (links ++ option_to_list (link_between (Some output) (Some input)))

-- the answer and what it leaves are those of a line, unless memory ran out
abbrev pub Takes : Result (Unit {0}) LinkFail → List Link → Result (List Link) LinkFail → Type 0
Takes (Ok _) left line = line ≡ Ok left
Takes (Err NoMemory) left line = Unit {0}
Takes (Err fault) left line = line ≡ Err fault
