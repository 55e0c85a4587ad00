-- Programs, runs and traces on which the definitions are worked out.
use Rattle.std.specs.Prelude.{ℕ, ℤ, pos, List, [], ◌∷◌, ◌++◌, Option, Some, None, codes}
use Rattle.tcel_num.specs.declared.op.Op.TheVariants.{Add, Sub, Div, Rem, Neg, Less, Greater}
use Rattle.tcel_num.specs.Entry as trace
use Rattle.tcel_num.specs.Entry.{Entry}
use Rattle.tcel_num.specs.Plan.{Plan, frame}
use Rattle.tcel_num.specs.Plan as points
use Rattle.tcel_core.specs.declared.body.CoreStmt.{CoreStmt}
use Rattle.tcel_core.specs.declared.body.CoreStmt as stmts
use Rattle.tcel_core.specs.declared.body.Item as items
use Rattle.tcel_core.specs.declared.expr.CoreExpr as exprs
use Rattle.tcel_core.specs.declared.set.CoreTask.{CoreTask}
use Rattle.tcel_core.specs.declared.event.Event.{Event}
use Rattle.tcel_core.specs.declared.event.EventKind.TheVariants.{Receive, Send}
use Rattle.tcel_core.specs.declared.var.Keep.{Keep}
use Rattle.tcel_core.specs.declared.var.Var.{Var}
use Rattle.tcel_core.specs.declared.var.VarKind.{VarKind}
use Rattle.tcel_core.specs.Language.{Expr, number, variable, element, unary, binary, Window, Block, done, next, item, choice, timed, assign, assign_at, receive, send, for_loop, while_loop, copy, Task}
use Rattle.tcel_core.specs.Meets.{Meets}
use Rattle.tcel_core.specs.Outcome.{Memory}

-- a scalar
abbrev pub int_var : List ℕ → Keep → Var
int_var name keep = record { name = Some name; kind = VarKind.Int; keep = keep; first = pos 0 }

-- an array
abbrev pub array_var : List ℕ → Keep → ℕ → Var
array_var name keep n = record { name = Some name; kind = VarKind.Array n; keep = keep; first = pos 0 }

-- the clauses of a `do` block
abbrev pub window : Option ℕ → Option ℕ → Option ℕ → Window
window after before within = record { after = after; before = before; within = within }

-- words and what each input has left
abbrev pub memory : List ℤ → List (List ℤ) → Memory
memory cells inputs = record { cells = cells; inputs = inputs }

-- an event of input 0, with its window
abbrev pub taken : ℤ → ℕ → ℕ → Event
taken value earliest latest =
    record { port = 0; kind = Receive; value = value; earliest = earliest; latest = latest }

-- an event of output 0, with its window
abbrev pub sent : ℤ → ℕ → ℕ → Event
sent value earliest latest =
    record { port = 0; kind = Send; value = value; earliest = earliest; latest = latest }

-- a variable and what is added to it
abbrev pub plus : ℕ → Expr → Expr
plus v e = binary Add (variable v) e

-- the number 1
abbrev pub one : Expr
one = number (pos 1)

-- a state n and a local x
abbrev pub counter_vars : List Var
counter_vars = int_var (codes "n") Keep.State ∷ int_var (codes "x") Keep.Local ∷ []

-- receive x from s; send x to o; n := n + 1;
abbrev pub counter_body : Block
counter_body =
    next (item 0 (receive 1 0))
    (next (item 1 (send (variable 1) 0))
    (next (item 2 (assign 0 (plus 0 one))) done))

-- a state n = 4, a state array of two and a local x
abbrev pub primed_vars : List Var
primed_vars =
    record { name = Some (codes "n"); kind = VarKind.Int; keep = Keep.State; first = pos 4 }
    ∷ array_var (codes "a") Keep.State 2 ∷ int_var (codes "x") Keep.Local ∷ []

-- each 10 ticks a value is passed on and counted
abbrev pub counter : Task
counter =
    record {
      name = codes "t";
      priority = 1;
      period = 10;
      deadline = 10;
      vars = counter_vars;
      inputs = codes "s" ∷ [];
      outputs = codes "o" ∷ [];
      body = counter_body;
    }

-- receive x from s; do start before 15 { if x > 0 { n := n + 1; } else { send n to o; } send 5 to o; }
abbrev pub alarm_body : Block
alarm_body =
    next (item 0 (receive 1 0))
    (next
    (timed 1 (window None (Some 15) None)
    (next
    (choice 0 (binary Greater (variable 1) (number (pos 0)))
    (next (item 1 (assign 0 (plus 0 one))) done)
    (next (item 2 (send (variable 0) 0)) done))
    (next (item 3 (send (number (pos 5)) 0)) done)))
    done)

-- each 20 ticks one or two values go out, the first of them by 15
abbrev pub alarm : Task
alarm =
    record {
      name = codes "t";
      priority = 1;
      period = 20;
      deadline = 20;
      vars = counter_vars;
      inputs = codes "s" ∷ [];
      outputs = codes "o" ∷ [];
      body = alarm_body;
    }

-- a state array of two and a local x
abbrev pub edge_vars : List Var
edge_vars = array_var (codes "a") Keep.State 2 ∷ int_var (codes "x") Keep.Local ∷ []

-- a[5] := 7; send a[5] to o; x := -9223372036854775807 - 1; send x / -1 to o; send x % -1 to o; send 4 / 0 to o;
-- receive x from s; send x to o;
abbrev pub edge_body : Block
edge_body =
    next (item 0 (assign_at 0 (number (pos 5)) (number (pos 7))))
    (next (item 1 (send (element 0 (number (pos 5))) 0))
    (next (item 2 (assign 1 (binary Sub (unary Neg (number (pos 9223372036854775807))) one)))
    (next (item 3 (send (binary Div (variable 1) (unary Neg one)) 0))
    (next (item 4 (send (binary Rem (variable 1) (unary Neg one)) 0))
    (next (item 5 (send (binary Div (number (pos 4)) (number (pos 0))) 0))
    (next (item 6 (receive 1 0))
    (next (item 7 (send (variable 1) 0)) done)))))))

-- two states and an array of two, which other variables follow
abbrev pub loop_vars : List Var
loop_vars =
    int_var (codes "n") Keep.State ∷ int_var (codes "i") Keep.Local ∷ array_var (codes "a") Keep.Local 2
    ∷ array_var (codes "b") Keep.Temp 2 ∷ []

-- for i < 3 { n := n + i; i := 7; }
abbrev pub for_body : Block
for_body =
    next
    (item 0
    (for_loop 1 3
    (next (item 0 (assign 0 (plus 0 (variable 1)))) (next (item 0 (assign 1 (number (pos 7)))) done))))
    done

-- while n < 10 limit TURNS { n := n + 4; }
abbrev pub while_body : ℕ → Block
while_body turns =
    next
    (item 0
    (while_loop (binary Less (variable 0) (number (pos 10))) turns
    (next (item 0 (assign 0 (plus 0 (number (pos 4))))) done)))
    done

-- a[1] := 7; a[0] := a[1] + 1; and a copy of a to b
abbrev pub array_body : Block
array_body =
    next (item 0 (assign_at 2 one (number (pos 7))))
    (next (item 1 (assign_at 2 (number (pos 0)) (binary Add (element 2 one) one)))
    (next (item 0 (copy 2 3)) done))

-- send 0 to o; do start after 3 start before 9 finish within 20 { send 1 to o;
-- do start after 5 start before 12 finish within 15 { send 2 to o; send 3 to o; } }
abbrev pub nested_body : Block
nested_body =
    next (item 0 (send (number (pos 0)) 0))
    (next
    (timed 1 (window (Some 3) (Some 9) (Some 20))
    (next (item 1 (send one 0))
    (next
    (timed 2 (window (Some 5) (Some 12) (Some 15))
    (next (item 2 (send (number (pos 2)) 0)) (next (item 3 (send (number (pos 3)) 0)) done)))
    done)))
    done)

-- do start before 9 { do start before 12 { send 1 to o; } send 2 to o; }
abbrev pub shared_first_body : Block
shared_first_body =
    next
    (timed 1 (window None (Some 9) None)
    (next (timed 2 (window None (Some 12) None) (next (item 0 (send one 0)) done))
    (next (item 1 (send (number (pos 2)) 0)) done)))
    done

-- what the counter's input gives
abbrev pub counter_streams : List (List ℤ)
counter_streams = (pos 5 ∷ pos 6 ∷ []) ∷ []

-- the counter takes 9 cycles, and its events and mark 8 of them
abbrev pub counter_plans : List Plan
counter_plans = record { period = 10; total = 9; points = record { prefix = 8; bound = 10; name = frame } ∷ [] } ∷ []

-- a trace of 10 ticks meets the counter's program
abbrev pub MeetsCounter : List Entry → Type 0
MeetsCounter trace = Meets (counter ∷ []) counter_plans (counter_streams ∷ []) 10 trace

-- an entry of the one task's frame 0
abbrev pub entry : ℕ → trace.What → Entry
entry time what = record { time = time; task = 0; frame = 0; what = what }

-- a value comes at 1 and goes out at this time
abbrev pub passed_on : ℕ → ℤ → List Entry
passed_on time value = entry 1 (trace.receive 0 (pos 5)) ∷ entry time (trace.send 0 value) ∷ []

-- and frame 0 ends at these times with n = 1
abbrev pub counted : ℕ → ℕ → List Entry
counted mark end = entry mark trace.first ∷ entry end (trace.end (pos 1 ∷ [])) ∷ []

-- ---- two tasks, one of which waits

-- a task without inputs, with one output
abbrev pub sender : List ℕ → ℕ → ℕ → ℕ → List Var → Block → Task
sender name priority period deadline vars body =
    record { name = name; priority = priority; period = period; deadline = deadline; vars = vars; inputs = []; outputs = codes "o" ∷ []; body = body }

-- each 8 ticks a 1 goes out
abbrev pub often : Task
often = sender (codes "hi") 2 8 8 [] (next (item 0 (send one 0)) done)

-- m := 1; do start after 10 finish within 30 { send m to o; }
abbrev pub waiting : Task
waiting =
    sender (codes "lo") 1 40 40 (int_var (codes "m") Keep.Local ∷ [])
    (next (item 0 (assign 0 one)) (next (timed 1 (window (Some 10) None (Some 30)) (next (item 1 (send (variable 0) 0)) done)) done))

abbrev pub both_plans : List Plan
both_plans =
    record { period = 8; total = 4; points = record { prefix = 3; bound = 8; name = frame } ∷ [] }
    ∷ record {
      period = 40;
      total = 14;
      points = record { prefix = 13; bound = 40; name = frame } ∷ record { prefix = 12; bound = 30; name = points.within 1 } ∷ [];
    }
    ∷ []

-- a trace of 24 ticks meets the program of both
abbrev pub MeetsBoth : List Entry → Type 0
MeetsBoth trace = Meets (often ∷ waiting ∷ []) both_plans ([] ∷ [] ∷ []) 24 trace

-- an entry of a task's frame
abbrev pub shown_by : ℕ → ℕ → ℕ → trace.What → Entry
shown_by time task f what = record { time = time; task = task; frame = f; what = what }

-- what a frame of the first task shows first
abbrev pub often_front : ℕ → ℕ → List Entry
often_front f a = shown_by a 0 f (trace.send 0 (pos 1)) ∷ []

-- a frame of the first task, by these times
abbrev pub often_frame : ℕ → ℕ → ℕ → ℕ → List Entry
often_frame f a b c = shown_by a 0 f (trace.send 0 (pos 1)) ∷ shown_by b 0 f trace.first ∷ shown_by c 0 f (trace.end []) ∷ []

-- what the second task shows by these times
abbrev pub waiting_front : ℕ → ℕ → List Entry
waiting_front a b = shown_by a 1 0 (trace.send 0 (pos 1)) ∷ shown_by b 1 0 trace.first ∷ []

-- ---- a task as code has it

-- n := 1; x := n; x := a[x]; x := -x; x := n + x;
abbrev pub assigns : List CoreStmt
assigns =
    stmts.Item 0 (items.Assign 0 (exprs.Number (pos 1))) ∷ stmts.Item 1 (items.Assign 2 (exprs.Var 0))
    ∷ stmts.Item 2 (items.Assign 2 (exprs.Index 1 (exprs.Var 2)))
    ∷ stmts.Item 3 (items.Assign 2 (exprs.Unary Neg (exprs.Var 2)))
    ∷ stmts.Item 4 (items.Assign 2 (exprs.Binary Add (exprs.Var 0) (exprs.Var 2))) ∷ []

abbrev pub plain_assigns : Block → Block
plain_assigns rest =
    next (item 0 (assign 0 one))
    (next (item 1 (assign 2 (variable 0)))
    (next (item 2 (assign 2 (element 1 (variable 2))))
    (next (item 3 (assign 2 (unary Neg (variable 2)))) (next (item 4 (assign 2 (plus 0 (variable 2)))) rest))))

-- a[n] := x; receive x from the second input; send x to the third output; a copy of a to b;
-- if x { } else { send 1 .. } and a block with all three clauses, a `for` and a `while`
abbrev pub each_statement : List CoreStmt
each_statement =
    stmts.Item 5 (items.AssignAt 1 (exprs.Var 0) (exprs.Var 2)) ∷ stmts.Item 6 (items.Receive 2 1)
    ∷ stmts.Item 7 (items.Send (exprs.Var 2) 3) ∷ stmts.Item 0 (items.Copy 1 4)
    ∷ stmts.If 9 (exprs.Var 2) (record { list = [] })
    (record { list = stmts.Item 8 (items.Send (exprs.Number (pos 1)) 0) ∷ [] })
    ∷ stmts.Do 1 (Some 11) (Some 12) (Some 13)
    (record { list = stmts.Item 9 (items.For 2 14 (record { list = stmts.Item 0 (items.Assign 0 (exprs.Var 2)) ∷ [] })) ∷ [] })
    ∷ stmts.Item 10 (items.While (exprs.Var 0) 15 (record { list = [] })) ∷ []

abbrev pub plain_statements : Block
plain_statements =
    next (item 5 (assign_at 1 (variable 0) (variable 2)))
    (next (item 6 (receive 2 1))
    (next (item 7 (send (variable 2) 3))
    (next (item 0 (copy 1 4))
    (next (choice 9 (variable 2) done (next (item 8 (send one 0)) done))
    (next
    (timed 1 (window (Some 11) (Some 12) (Some 13)) (next (item 9 (for_loop 2 14 (next (item 0 (assign 0 (variable 2))) done))) done))
    (next (item 10 (while_loop (variable 0) 15 done)) done))))))

-- a task of these statements as code has it, and as plain data
abbrev pub coded : CoreTask
coded =
    record {
      name = codes "t";
      priority = 3;
      period = 20;
      finish = 19;
      vars = primed_vars;
      inputs = codes "p" ∷ codes "q" ∷ [];
      outputs = codes "r" ∷ [];
      body = record { list = assigns ++ each_statement };
    }

abbrev pub plainly : Task
plainly =
    record {
      name = codes "t";
      priority = 3;
      period = 20;
      deadline = 19;
      vars = primed_vars;
      inputs = codes "p" ∷ codes "q" ∷ [];
      outputs = codes "r" ∷ [];
      body = plain_assigns plain_statements;
    }
