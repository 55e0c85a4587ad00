-- Worked examples: tasks with a state n, a local x, the inputs i and j and the outputs o and r, linked in some ways.
use Rattle.std.specs.Prelude.{ℕ, ℤ, pos, List, [], ◌∷◌, ◌++◌, codes, flat_map}
use Rattle.tcel_core.specs.declared.event.Event.{Event}
use Rattle.tcel_core.specs.declared.event.EventKind.{EventKind}
use Rattle.tcel_core.specs.Examples.{counter_vars, one, plus}
use Rattle.tcel_core.specs.Language.{Block, Expr, Task, assign, binary, choice, done, for_loop, item, next, number, receive, send, variable}
use Rattle.tcel_num.specs.declared.op.Op.TheVariants.{Equal}
use Rattle.tcel_num.specs.Entry.{Entry, What, receive as receive_of, send as send_of}
use Rattle.tcel_link.specs.declared.link.Link.{Link}
use Rattle.tcel_script.specs.Script.{Streams}

-- ---- bodies

-- n := n + 1; send n to o;
abbrev pub counting : Block
counting = next (item 0 (assign 0 (plus 0 one))) (next (item 1 (send (variable 0) 0)) done)

-- receive x from i; send x to r;
abbrev pub passing : Block
passing = next (item 0 (receive 1 0)) (next (item 1 (send (variable 1) 1)) done)

-- receive x from i; receive n from i; send x to r;
abbrev pub twice : Block
twice = next (item 0 (receive 1 0)) (next (item 1 (receive 0 0)) (next (item 2 (send (variable 1) 1)) done))

-- receive n from i; send n + 1 to o;
abbrev pub echoing : Block
echoing = next (item 0 (receive 0 0)) (next (item 1 (send (plus 0 one) 0)) done)

-- n := n + 1; send n to o; send n + 10 to o; send 7 to r;
abbrev pub doubling : Block
doubling =
    next (item 0 (assign 0 (plus 0 one)))
    (next (item 1 (send (variable 0) 0)) (next (item 2 (send (plus 0 (number (pos 10))) 0)) (next (item 3 (send (number (pos 7)) 1)) done)))

-- n == 1
abbrev pub is_first : Expr
is_first = binary Equal (variable 0) one

-- send 9 to o;
abbrev pub sending_nine : Block
sending_nine = next (item 1 (send (number (pos 9)) 0)) done

-- n := n + 1; if n == 1 { send 9 to o; }
abbrev pub sending_once : Block
sending_once = next (item 0 (assign 0 (plus 0 one))) (next (choice 0 is_first sending_nine done) done)

-- receive n from i;
abbrev pub receiving : Block
receiving = next (item 0 (receive 0 0)) done

-- for x < 2 { receive n from i; }
abbrev pub looping : Block
looping = next (item 0 (for_loop 1 2 receiving)) done

-- ---- tasks

abbrev pub task_over : List ℕ → ℕ → ℕ → ℕ → Block → Task
task_over name priority period deadline body =
    record {
      name = name;
      priority = priority;
      period = period;
      deadline = deadline;
      vars = counter_vars;
      inputs = codes "i" ∷ codes "j" ∷ [];
      outputs = codes "o" ∷ codes "r" ∷ [];
      body = body;
    }

-- the tasks p and c
abbrev pub two_tasks : Task → Task → List Task
two_tasks p c = p ∷ c ∷ []

abbrev pub producer : ℕ → ℕ → Block → Task
producer period deadline body = task_over (codes "p") 3 period deadline body

abbrev pub consumer : ℕ → ℕ → Block → Task
consumer period deadline body = task_over (codes "c") 2 period deadline body

-- p counts and c passes on, each in 20 ticks
abbrev pub passed_on : List Task
passed_on = two_tasks (producer 20 20 counting) (consumer 20 20 passing)

abbrev pub last_task : ℕ → ℕ → Block → Task
last_task period deadline body = task_over (codes "d") 1 period deadline body

abbrev pub link : ℕ → ℕ → ℕ → ℕ → Link
link from output to input = record { from = from; output = output; to = to; input = input }

-- what the two inputs of each task have
abbrev pub streams : List (List ℤ × List ℤ) → Streams
streams [] = []
streams (row ∷ rows) = (row.0 ∷ row.1 ∷ []) ∷ streams rows

-- an event by a frame's deadline, with no block around it
abbrev pub moved : EventKind → ℕ → ℤ → ℕ → Event
moved kind port value deadline = record { port = port; kind = kind; value = value; earliest = 0; latest = deadline }

-- lines, each with a line feed
abbrev pub text : List (List ℕ) → List ℕ
text lines = flat_map (λ line. line ++ 10 ∷ []) lines

-- ---- a trace of p, which counts, and c, which passes on

abbrev pub shown_at : ℕ → ℕ → ℕ → What → Entry
shown_at time task frame what = record { time = time; task = task; frame = frame; what = what }

-- what their first two frames show, up to c's second receive
abbrev pub first_frame : List Entry
first_frame = shown_at 6 0 0 (send_of 0 (pos 1)) ∷ shown_at 9 1 0 (receive_of 0 (pos 0)) ∷ shown_at 11 1 0 (send_of 1 (pos 0)) ∷ []

abbrev pub second_receive : ℤ → List Entry
second_receive value = shown_at 29 1 1 (receive_of 0 value) ∷ []

abbrev pub passed_trace : ℤ → List Entry
passed_trace value = first_frame ++ shown_at 26 0 1 (send_of 0 (pos 2)) ∷ second_receive value

-- a task that has no values
abbrev pub no_values : Streams
no_values = streams (([], []) ∷ ([], []) ∷ [])
