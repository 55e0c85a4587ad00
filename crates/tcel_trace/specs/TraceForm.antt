-- The lines of a trace and their texts.
use Rattle.std.specs.Prelude.{◌≡◌, ◌≢◌, ℕ, ◌+◌, ◌<◌, ◌^◌, ℤ, Bool, List, ◌++◌, length, map, All, Result, Ok, Err, FitsSigned, codes, if◌then◌else◌}
use Rattle.std.specs.Int.{w64}
use Rattle.std.specs.Global.{Vec}
use Rattle.std.specs.List.{flat_map, join_with_byte}
use Rattle.std.specs.Fmt.{decimal, signed_decimal}
use Rattle.tcel_num.specs.Name.{IsName}
use Rattle.tcel_trace.specs.declared.trace_fail.TraceFail.{TraceFail}
use Rattle.tcel_trace.specs.declared.trace_fail.TraceFail.TheVariants.{BadTrace, NoMemory}
use Rattle.tcel_trace.specs.declared.trace_line.TraceLine.{TraceLine}
use Rattle.tcel_trace.specs.declared.trace_line.LineWhat.{LineWhat}
use Rattle.tcel_trace.specs.declared.trace_line.LineWhat.TheVariants.{Receive, Send, First, End}

-- ---- states

-- the value of an int, of a bool, or of an array
pub data Value : Type 0 where
  int : ℤ → Value
  truth : Bool → Value
  array : List ℤ → Value

-- its numbers are of 64 bits, and an array has some
abbrev pub ValueFits : Value → Type 0
ValueFits (int number) = FitsSigned w64 number
ValueFits (truth holds) = Unit {0}
ValueFits (array numbers) = (0 < length numbers) × All (FitsSigned w64) numbers

abbrev pub value_text : Value → List ℕ
value_text (int number) = signed_decimal number
value_text (truth holds) = if holds then codes "true" else codes "false"
value_text (array numbers) = codes "[" ++ (join_with_byte 44 (map signed_decimal numbers) ++ codes "]")

pub record State : Type 0 where
  pub name : List ℕ
  pub value : Value

pub record StateFits (state : State) : Type 0 where
  pub name : IsName state.name
  pub value : ValueFits state.value

abbrev pub state_text : State → List ℕ
state_text state = state.name ++ (codes "=" ++ value_text state.value)

-- the states, each behind a space
abbrev pub states_text : List State → List ℕ
states_text states = flat_map (λ state. codes " " ++ state_text state) states

-- the bytes are the text of some states
pub record AreStates (bytes : List ℕ) : Type 0 where
  pub states : List State
  pub fit : All StateFits states
  pub text : bytes ≡ states_text states

-- ---- lines

-- names are names, numbers are of 64 bits, and the text of states is one
abbrev pub WhatFits : LineWhat → Type 0
WhatFits (Receive port value) = IsName port × FitsSigned w64 value
WhatFits (Send port value) = IsName port × FitsSigned w64 value
WhatFits First = Unit {0}
WhatFits (End state) = AreStates state

pub record LineFits (line : TraceLine) : Type 0 where
  pub time : line.time < 2 ^ 64
  pub task : IsName line.task
  pub frame : line.frame < 2 ^ 64
  pub what : WhatFits line.what

abbrev pub what_text : LineWhat → List ℕ
what_text (Receive port value) = codes "receive " ++ (port ++ (codes " " ++ signed_decimal value))
what_text (Send port value) = codes "send " ++ (port ++ (codes " " ++ signed_decimal value))
what_text First = codes "first"
what_text (End state) = codes "end" ++ state

-- a line without its line feed
abbrev pub body_text : TraceLine → List ℕ
body_text line = decimal line.time ++ (codes " " ++ (line.task ++ (codes " " ++ (decimal line.frame ++ (codes " " ++ what_text line.what)))))

abbrev pub line_text : TraceLine → List ℕ
line_text line = body_text line ++ codes "\n"

-- ---- traces

-- the bytes are these lines, one behind the other
pub record IsTrace (lines : List TraceLine) (bytes : List ℕ) : Type 0 where
  pub fit : All LineFits lines
  pub text : bytes ≡ flat_map line_text lines

-- the bytes begin with no line
abbrev pub BeginWithNone : List ℕ → Type 0
BeginWithNone bytes = (line : TraceLine) (more : List ℕ) → LineFits line → bytes ≢ line_text line ++ more

-- the line with this number, from 1, is the first without the form of one: lines stand in front of it, bytes are left, and they begin with none
pub record IsBadAt (bytes : List ℕ) (number : ℕ) : Type 0 where
  pub front : List TraceLine
  pub rest : List ℕ
  pub fit : All LineFits front
  pub text : bytes ≡ flat_map line_text front ++ rest
  pub at : number ≡ length front + 1
  pub more : 0 < length rest
  pub bad : BeginWithNone rest

-- the answer is what the bytes say, unless memory ran out
abbrev pub ReadsTrace : Result (Vec TraceLine) TraceFail → List ℕ → Type 0
ReadsTrace (Ok lines) bytes = IsTrace lines.items bytes
ReadsTrace (Err (BadTrace number)) bytes = IsBadAt bytes number
ReadsTrace (Err NoMemory) bytes = Unit {0}
