-- Worked examples of the machine: images, the streams of their inputs, and what they show.
use Rattle.std.specs.Prelude.{ℕ, pos, negsuc, List, [], ◌∷◌, false, codes}
use Rattle.tcel_num.specs.declared.op.Op.TheVariants.{Add, Mul, Div, Neg}
use Rattle.tcel_num.specs.Entry.{Entry, What, receive, send, first, end}
use Rattle.tcel_image.specs.Machine.{Streams}
use Rattle.tcel_target.specs.Costs.{unit_costs}
use Rattle.tcel_target.specs.Examples.{many_costs}
use Rattle.tcel_image.specs.declared.image.Image.{Image}
use Rattle.tcel_image.specs.declared.image.ImageTask.{ImageTask}
use Rattle.tcel_image.specs.declared.flaw.Flaw.{Flaw}
use Rattle.tcel_image.specs.declared.flaw.FlawKind.{FlawKind}
use Rattle.tcel_image.specs.declared.image.Line.{Line}
use Rattle.tcel_image.specs.declared.image.Instr.{Instr}
use Rattle.tcel_image.specs.declared.image.Instr.TheVariants.{Const, Get, Put, GetAt, PutAt, Arith, Jump, Branch, Loop, Receive, Send, Hold, Copy, Mark, End}
use Rattle.tcel_image.specs.declared.image.StateKind.TheVariants.{Int, Bool, Array}

abbrev pub at_depth : ℕ → Instr → Line
at_depth depth instr = record { instr = instr; depth = depth }

-- a task of period 10 that sends on what it receives, and counts its frames in n
abbrev pub echo : Image
echo =
    record {
      costs = unit_costs;
      tasks =
          record {
            name = codes "t";
            period = 10;
            sliced = false;
            inputs = codes "s" ∷ [];
            outputs = codes "o" ∷ [];
            states = record { name = codes "n"; kind = Int; words = 1; first = pos 0 ∷ [] } ∷ [];
            cells = 2;
            code =
                at_depth 0 (Receive 0 1) ∷ at_depth 0 (Get 1) ∷ at_depth 1 (Send 0) ∷ at_depth 0 (Get 0) ∷ at_depth 1 (Const (pos 1))
                ∷ at_depth 2 (Arith Add) ∷ at_depth 1 (Put 0) ∷ at_depth 0 Mark ∷ at_depth 0 End ∷ [];
          }
          ∷ [];
    }

-- the same on a processor that takes 3 ticks to start a frame
abbrev pub dispatched_echo : Image
dispatched_echo = record echo { costs = record unit_costs { dispatch = 3 } }

abbrev pub echo_streams : Streams
echo_streams = ((pos 5 ∷ pos 6 ∷ []) ∷ []) ∷ []

abbrev pub echo_trace : List Entry
echo_trace =
    record { time = 1; task = 0; frame = 0; what = receive 0 (pos 5) }
    ∷ record { time = 3; task = 0; frame = 0; what = send 0 (pos 5) }
    ∷ record { time = 8; task = 0; frame = 0; what = first }
    ∷ record { time = 9; task = 0; frame = 0; what = end (pos 1 ∷ []) } ∷ []

-- a task without inputs, states or cells, with one output
abbrev pub sender : List ℕ → ℕ → ℕ → List Line → ImageTask
sender name period cells code =
    record {
      name = name;
      period = period;
      sliced = false;
      inputs = [];
      outputs = codes "o" ∷ [];
      states = [];
      cells = cells;
      code = code;
    }

-- a high task of period 8 that sends 1, and a low one of period 40 that holds until 10 ticks after its release
abbrev pub held : Image
held =
    record {
      costs = unit_costs;
      tasks =
          sender (codes "hi") 8 0 (at_depth 0 (Const (pos 1)) ∷ at_depth 1 (Send 0) ∷ at_depth 0 Mark ∷ at_depth 0 End ∷ [])
          ∷ sender (codes "lo") 40 1
          (at_depth 0 (Const (pos 1)) ∷ at_depth 1 (Put 0) ∷ at_depth 0 (Hold 10) ∷ at_depth 0 (Get 0) ∷ at_depth 1 (Send 0) ∷ at_depth 0 Mark ∷ at_depth 0 End ∷ [])
          ∷ [];
    }

abbrev pub entry : ℕ → ℕ → ℕ → What → Entry
entry time task frame what = record { time = time; task = task; frame = frame; what = what }

-- the hold takes ticks 6 and 7, is preempted past its bound, and takes tick 12
abbrev pub held_trace : List Entry
held_trace =
    entry 2 0 0 (send 0 (pos 1)) ∷ entry 3 0 0 first ∷ entry 4 0 0 (end []) ∷ entry 10 0 1 (send 0 (pos 1))
    ∷ entry 11 0 1 first ∷ entry 12 0 1 (end []) ∷ entry 15 1 0 (send 0 (pos 1)) ∷ entry 16 1 0 first
    ∷ entry 18 0 2 (send 0 (pos 1)) ∷ entry 19 0 2 first ∷ entry 20 0 2 (end []) ∷ entry 21 1 0 (end []) ∷ []

-- the same tasks, with a tick at the start of each frame
abbrev pub started : Image
started = record held { costs = record unit_costs { dispatch = 1 } }

abbrev pub started_trace : List Entry
started_trace =
    entry 3 0 0 (send 0 (pos 1)) ∷ entry 4 0 0 first ∷ entry 5 0 0 (end [])
    ∷ entry 11 0 1 (send 0 (pos 1)) ∷ entry 12 0 1 first ∷ entry 13 0 1 (end [])
    ∷ entry 16 1 0 (send 0 (pos 1)) ∷ entry 19 0 2 (send 0 (pos 1)) ∷ entry 20 0 2 first
    ∷ entry 21 0 2 (end []) ∷ entry 22 1 0 first ∷ entry 23 1 0 (end [])
    ∷ entry 27 0 3 (send 0 (pos 1)) ∷ entry 28 0 3 first ∷ entry 29 0 3 (end []) ∷ []

-- a high task that sends the opposite of what it receives, and a low one that fills an array in a loop, copies it, branches on a quotient and waits
abbrev pub busy : Image
busy =
    record {
      costs = many_costs;
      tasks =
          record {
            name = codes "hi";
            period = 150;
            sliced = false;
            inputs = codes "s" ∷ [];
            outputs = codes "o" ∷ [];
            states = [];
            cells = 1;
            code =
                at_depth 0 (Receive 0 0) ∷ at_depth 0 (Get 0) ∷ at_depth 1 (Arith Neg)
                ∷ at_depth 1 (Send 0) ∷ at_depth 0 Mark ∷ at_depth 0 End ∷ [];
          }
          ∷ record {
            name = codes "lo";
            period = 400;
            sliced = false;
            inputs = [];
            outputs = codes "o" ∷ [];
            states = record { name = codes "n"; kind = Int; words = 1; first = pos 7 ∷ [] } ∷ [];
            cells = 8;
            code =
                at_depth 0 (Const (pos 0)) ∷ at_depth 1 (Put 7) ∷ at_depth 0 (Get 7)
                ∷ at_depth 1 (Get 7) ∷ at_depth 2 (Const (pos 3)) ∷ at_depth 3 (Arith Mul)
                ∷ at_depth 2 (PutAt 1 3) ∷ at_depth 0 (Loop 7 2 2) ∷ at_depth 0 (Copy 1 4 3)
                ∷ at_depth 0 (Const (pos 1)) ∷ at_depth 1 (GetAt 4 3)
                ∷ at_depth 1 (Const (pos 2)) ∷ at_depth 2 (Arith Div) ∷ at_depth 1 (Branch 18)
                ∷ at_depth 0 (Get 0) ∷ at_depth 1 (Put 0) ∷ at_depth 0 (Hold 200)
                ∷ at_depth 0 (Jump 20) ∷ at_depth 0 (Const (pos 9)) ∷ at_depth 1 (Put 0)
                ∷ at_depth 0 (Get 5) ∷ at_depth 1 (Send 0) ∷ at_depth 0 Mark ∷ at_depth 0 End ∷ [];
          }
          ∷ [];
    }

abbrev pub busy_streams : Streams
busy_streams = ((pos 5 ∷ pos 6 ∷ []) ∷ []) ∷ []

abbrev pub busy_trace : List Entry
busy_trace =
    entry 27 0 0 (receive 0 (pos 5)) ∷ entry 48 0 0 (send 0 (negsuc 4)) ∷ entry 62 0 0 first
    ∷ entry 78 0 0 (end []) ∷ entry 177 0 1 (receive 0 (pos 6)) ∷ entry 198 0 1 (send 0 (negsuc 5))
    ∷ entry 212 0 1 first ∷ entry 228 0 1 (end []) ∷ entry 300 1 0 (send 0 (pos 3))
    ∷ entry 327 0 2 (receive 0 (pos 0)) ∷ entry 348 0 2 (send 0 (pos 0)) ∷ entry 362 0 2 first
    ∷ entry 378 0 2 (end []) ∷ entry 392 1 0 first ∷ entry 408 1 0 (end (pos 7 ∷ [])) ∷ []

-- a high task of period 4 that does nothing, and a low one of period 6 that receives once
abbrev pub preempted : Image
preempted =
    record {
      costs = unit_costs;
      tasks =
          record {
            name = codes "a";
            period = 4;
            sliced = false;
            inputs = [];
            outputs = [];
            states = [];
            cells = 0;
            code = at_depth 0 Mark ∷ at_depth 0 End ∷ [];
          }
          ∷ record {
            name = codes "b";
            period = 6;
            sliced = false;
            inputs = codes "s" ∷ [];
            outputs = [];
            states = [];
            cells = 1;
            code = at_depth 0 (Receive 0 0) ∷ at_depth 0 Mark ∷ at_depth 0 End ∷ [];
          }
          ∷ [];
    }

-- the low task's first frame ends after its period, and the next begins behind it
abbrev pub preempted_trace : List Entry
preempted_trace =
    entry 1 0 0 first ∷ entry 2 0 0 (end []) ∷ entry 3 1 0 (receive 0 (pos 0)) ∷ entry 4 1 0 first ∷ entry 5 0 1 first
    ∷ entry 6 0 1 (end []) ∷ entry 7 1 0 (end []) ∷ entry 8 1 1 (receive 0 (pos 0)) ∷ entry 9 0 2 first
    ∷ entry 10 0 2 (end []) ∷ entry 11 1 1 first ∷ entry 12 1 1 (end []) ∷ []

-- a task with an array of three words and a truth value, whose one copy overlaps itself
abbrev pub shifting : Image
shifting =
    record {
      costs = unit_costs;
      tasks =
          record {
            name = codes "t";
            period = 9;
            sliced = false;
            inputs = [];
            outputs = [];
            states =
                record { name = codes "a"; kind = Array; words = 3; first = pos 1 ∷ pos 2 ∷ negsuc 2 ∷ [] }
                ∷ record { name = codes "b"; kind = Bool; words = 1; first = pos 7 ∷ [] } ∷ [];
            cells = 4;
            code = at_depth 0 (Copy 0 1 2) ∷ at_depth 0 Mark ∷ at_depth 0 End ∷ [];
          }
          ∷ [];
    }

-- a task of period 0 with a jump past its code
abbrev pub flawed : Image
flawed =
    record {
      costs = unit_costs;
      tasks =
          record {
            name = codes "t";
            period = 0;
            sliced = false;
            inputs = codes "s" ∷ [];
            outputs = codes "o" ∷ [];
            states = [];
            cells = 2;
            code = at_depth 0 (Receive 0 1) ∷ at_depth 0 (Jump 3) ∷ at_depth 0 End ∷ [];
          }
          ∷ [];
    }

abbrev pub flaw : FlawKind → ℕ → Flaw
flaw kind pc = record { kind = kind; task = 0; pc = pc }
