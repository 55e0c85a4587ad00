-- Worked images of sets in other forms than whole, and what they show.
use Rattle.std.specs.Prelude.{pos, true, List, [], ◌∷◌, Some, codes}
use Rattle.tcel_num.specs.declared.op.Op.TheVariants.{Add}
use Rattle.tcel_num.specs.Entry.{Entry, receive as received, send as sent, first, end}
use Rattle.tcel_core.specs.declared.var.Keep.{Keep}
use Rattle.tcel_core.specs.declared.var.Var.{Var}
use Rattle.tcel_core.specs.Examples.{int_var, one, plus}
use Rattle.tcel_core.specs.Language.{variable, Block, done, next, item, assign, send, for_loop}
use Rattle.tcel_core.specs.Outcome.{EnclosingBlock}
use Rattle.tcel_image.specs.declared.image.Image.{Image}
use Rattle.tcel_image.specs.declared.image.Instr.TheVariants.{Const, Get, Put, Arith, Loop, Receive, Send, Mark, End}
use Rattle.tcel_image.specs.declared.image.Line.{Line}
use Rattle.tcel_image.specs.declared.image.StateKind.TheVariants.{Int}
use Rattle.tcel_image.specs.Examples.{at_depth, entry}
use Rattle.tcel_image.specs.Machine.{Streams}
use Rattle.tcel_target.specs.Costs.{unit_costs}

-- the block around the events of a task that waits, with the event that leads it
abbrev pub waiting : List EnclosingBlock
waiting = record { number = 1; window = record { after = Some 3; before = Some 5; within = Some 6 }; leads = true } ∷ []

-- two tasks, of which the higher waits in a block: it takes ticks 0 to 7 of each 10, and the lower one the others
abbrev pub pair_streams : Streams
pair_streams = ((pos 5 ∷ pos 6 ∷ []) ∷ []) ∷ [] ∷ []

abbrev pub pair_trace : List Entry
pair_trace =
    entry 4 0 0 (received 0 (pos 5)) ∷ entry 6 0 0 (sent 0 (pos 5)) ∷ entry 7 0 0 first ∷ entry 8 0 0 (end [])
    ∷ entry 10 1 0 (sent 0 (pos 7)) ∷ entry 14 0 1 (received 0 (pos 6)) ∷ entry 16 0 1 (sent 0 (pos 6)) ∷ entry 17 0 1 first
    ∷ entry 18 0 1 (end []) ∷ entry 19 1 0 first ∷ entry 20 1 0 (end (pos 7 ∷ [])) ∷ []

-- the task that counts its frames behind its mark
abbrev pub sliced_image : Image
sliced_image =
    record {
      costs = unit_costs;
      tasks =
          record {
            name = codes "t";
            period = 10;
            sliced = true;
            inputs = codes "s" ∷ [];
            outputs = codes "o" ∷ [];
            states = record { name = codes "n"; kind = Int; words = 1; first = pos 0 ∷ [] } ∷ [];
            cells = 2;
            code =
                at_depth 0 (Receive 0 1) ∷ at_depth 0 (Get 1) ∷ at_depth 1 (Send 0) ∷ at_depth 0 Mark ∷ at_depth 0 (Get 0)
                ∷ at_depth 1 (Const (pos 1)) ∷ at_depth 2 (Arith Add) ∷ at_depth 1 (Put 0) ∷ at_depth 0 End ∷ [];
          }
          ∷ [];
    }

abbrev pub sliced_streams : Streams
sliced_streams = ((pos 5 ∷ []) ∷ []) ∷ []

abbrev pub sliced_trace : List Entry
sliced_trace =
    entry 1 0 0 (received 0 (pos 5)) ∷ entry 3 0 0 (sent 0 (pos 5)) ∷ entry 4 0 0 first ∷ entry 9 0 0 (end (pos 1 ∷ [])) ∷ []

-- a rest that runs past its period: frames 0 to 2 of the lower task end behind the release of the next, which wait for them
abbrev pub overrunning_streams : Streams
overrunning_streams = [] ∷ ((pos 5 ∷ pos 6 ∷ pos 7 ∷ []) ∷ []) ∷ []

abbrev pub overrunning_trace : List Entry
overrunning_trace =
    entry 2 0 0 (sent 0 (pos 1)) ∷ entry 3 0 0 first ∷ entry 4 0 0 (end [])
    ∷ entry 5 1 0 (received 0 (pos 5)) ∷ entry 6 1 0 first ∷ entry 9 1 0 (end (pos 5 ∷ []))
    ∷ entry 10 1 1 (received 0 (pos 6)) ∷ entry 11 1 1 first ∷ entry 14 1 1 (end (pos 6 ∷ []))
    ∷ entry 15 1 2 (received 0 (pos 7)) ∷ entry 16 1 2 first ∷ entry 19 1 2 (end (pos 7 ∷ []))
    ∷ entry 20 1 3 (received 0 (pos 0)) ∷ entry 21 1 3 first ∷ entry 24 1 3 (end (pos 0 ∷ []))
    ∷ entry 25 1 4 (received 0 (pos 0)) ∷ entry 26 1 4 first ∷ entry 29 1 4 (end (pos 0 ∷ [])) ∷ []

-- ---- counters

-- a state n, and two locals
abbrev pub loops_vars : List Var
loops_vars = int_var (codes "n") Keep.State ∷ int_var (codes "i") Keep.Local ∷ int_var (codes "j") Keep.Local ∷ []

-- for i < 2 { n := n + 1; } is left for the rest, and for j < 3 { send j to o; } is not
abbrev pub loops_first : Block
loops_first = next (item 1 (for_loop 2 3 (next (item 0 (send (variable 2) 0)) done))) done

abbrev pub loops_rest : Block
loops_rest = next (item 0 (for_loop 1 2 (next (item 0 (assign 0 (plus 0 one))) done))) done

abbrev pub loops_body : Block
loops_body =
    next (item 0 (for_loop 1 2 (next (item 0 (assign 0 (plus 0 one))) done)))
    (next (item 1 (for_loop 2 3 (next (item 0 (send (variable 2) 0)) done))) done)

-- the counter of the first loop of the text is cell 3, and that of the second cell 4
abbrev pub loops_code : List Line
loops_code =
    at_depth 0 (Const (pos 0)) ∷ at_depth 1 (Put 4) ∷ at_depth 0 (Get 4) ∷ at_depth 1 (Put 2)
    ∷ at_depth 0 (Get 2) ∷ at_depth 1 (Send 0) ∷ at_depth 0 (Loop 4 3 2) ∷ at_depth 0 Mark
    ∷ at_depth 0 (Const (pos 0)) ∷ at_depth 1 (Put 3) ∷ at_depth 0 (Get 3) ∷ at_depth 1 (Put 1)
    ∷ at_depth 0 (Get 0) ∷ at_depth 1 (Const (pos 1)) ∷ at_depth 2 (Arith Add) ∷ at_depth 1 (Put 0) ∷ at_depth 0 (Loop 3 2 10) ∷ at_depth 0 End ∷ []
