-- How an image is written as bytes, and which images have a spelling.
use Rattle.std.specs.Prelude.{◌≡◌, ℕ, ℤ, ◌<◌, ◌≤◌, ◌^◌, Bool, true, false, List, [], ◌∷◌, ◌++◌, length, sum_by, All, FitsSigned, codes, if◌then◌else◌, ◌==◌}
use Rattle.std.specs.List.{flat_map}
use Rattle.std.specs.Int.{Width, w16, w32, w64, to_le_bytes, cast_unsigned, IsInRange}
use Rattle.tcel_num.specs.Name.{IsName}
use Rattle.tcel_num.specs.declared.op.Op.{Op}
use Rattle.tcel_num.specs.declared.op.Op.TheVariants as ops
use Rattle.tcel_target.specs.declared.costs.Costs.{Costs}
use Rattle.tcel_target.specs.Costs.{cost_of, instruction_keys, CostsInRange}
use Rattle.tcel_image.specs.declared.image.Image.{Image}
use Rattle.tcel_image.specs.declared.image.ImageTask.{ImageTask}
use Rattle.tcel_image.specs.declared.image.ImageState.{ImageState}
use Rattle.tcel_image.specs.declared.image.StateKind.{StateKind}
use Rattle.tcel_image.specs.declared.image.StateKind.TheVariants as kinds
use Rattle.tcel_image.specs.declared.image.Line.{Line}
use Rattle.tcel_image.specs.declared.image.Instr.{Instr}
use Rattle.tcel_image.specs.declared.image.Instr.TheVariants as instrs

-- ---- fields

-- a number of so many bytes, the lowest byte first
unfoldable pub number : Width → ℕ → List ℕ
number w n = to_le_bytes w n

-- a signed number as its two's complement of eight bytes
abbrev pub value : ℤ → List ℕ
value z = number w64 (cast_unsigned w64 z)

-- one byte
abbrev pub byte : ℕ → List ℕ
byte n = n ∷ []

-- a length byte, and so many bytes
abbrev pub name : List ℕ → List ℕ
name bytes = byte (length bytes) ++ bytes

-- a count, and so many names
abbrev pub names : List (List ℕ) → List ℕ
names ns = number w16 (length ns) ++ flat_map name ns

-- ---- an instruction: sixteen bytes

-- the number of an operator
abbrev pub op_number : Op → ℕ
op_number ops.Add = 1
op_number ops.Sub = 2
op_number ops.Mul = 3
op_number ops.Div = 4
op_number ops.Rem = 5
op_number ops.Neg = 6
op_number ops.Not = 7
op_number ops.And = 8
op_number ops.Or = 9
op_number ops.Equal = 10
op_number ops.Unequal = 11
op_number ops.Less = 12
op_number ops.LessOrEqual = 13
op_number ops.Greater = 14
op_number ops.GreaterOrEqual = 15

-- the number of an instruction
abbrev pub opcode : Instr → ℕ
opcode (instrs.Const v) = 1
opcode (instrs.Get a) = 2
opcode (instrs.Put a) = 3
opcode (instrs.GetAt a b) = 4
opcode (instrs.PutAt a b) = 5
opcode (instrs.Arith op) = 6
opcode (instrs.Jump a) = 7
opcode (instrs.Branch a) = 8
opcode (instrs.Loop a b c) = 9
opcode (instrs.Receive a b) = 10
opcode (instrs.Send a) = 11
opcode (instrs.Hold a) = 12
opcode (instrs.Copy a b c) = 13
opcode instrs.Mark = 14
opcode instrs.End = 15

-- the number of its operator, 0 where it has none
abbrev pub operator : Instr → ℕ
operator (instrs.Arith op) = op_number op
operator _ = 0

-- three numbers of four bytes
abbrev pub three : ℕ → ℕ → ℕ → List ℕ
three a b c = number w32 a ++ number w32 b ++ number w32 c

-- its operands, 0 where one is not used; a constant takes the place of the first two
abbrev pub operands : Instr → List ℕ
operands (instrs.Const v) = value v ++ number w32 0
operands (instrs.Get a) = three a 0 0
operands (instrs.Put a) = three a 0 0
operands (instrs.GetAt a b) = three a b 0
operands (instrs.PutAt a b) = three a b 0
operands (instrs.Arith op) = three 0 0 0
operands (instrs.Jump a) = three a 0 0
operands (instrs.Branch a) = three a 0 0
operands (instrs.Loop a b c) = three a b c
operands (instrs.Receive a b) = three a b 0
operands (instrs.Send a) = three a 0 0
operands (instrs.Hold a) = three a 0 0
operands (instrs.Copy a b c) = three a b c
operands instrs.Mark = three 0 0 0
operands instrs.End = three 0 0 0

-- opcode, operator, the depth of the stack before it, and the operands
abbrev pub line : Line → List ℕ
line l = byte (opcode l.instr) ++ byte (operator l.instr) ++ number w16 l.depth ++ operands l.instr

-- ---- tasks and images

abbrev pub kind_number : StateKind → ℕ
kind_number kinds.Int = 0
kind_number kinds.Bool = 1
kind_number kinds.Array = 2

abbrev pub flag : Bool → ℕ
flag false = 0
flag true = 1

-- name, kind, number of words, and their first values
abbrev pub state : ImageState → List ℕ
state s = name s.name ++ byte (kind_number s.kind) ++ number w32 s.words ++ flat_map value s.first

abbrev pub states : List ImageState → List ℕ
states ss = number w16 (length ss) ++ flat_map state ss

abbrev pub code : List Line → List ℕ
code lines = number w32 (length lines) ++ flat_map line lines

abbrev pub task : ImageTask → List ℕ
task t = name t.name ++ number w32 t.period ++ byte (flag t.sliced) ++ names t.inputs ++ names t.outputs ++ states t.states ++ number w32 t.cells ++ code t.code

abbrev pub magic : List ℕ
magic = codes "TCEL"

-- the cost of a frame's start, where there is one
abbrev pub dispatch : ℕ → List ℕ
dispatch ticks = if ticks == 0 then [] else number w32 ticks

-- the costs of instructions in the order of their keys, and that of a frame's start
abbrev pub costs : Costs → List ℕ
costs c = flat_map (λ key. number w32 (cost_of c key)) instruction_keys ++ dispatch c.dispatch

-- the version, by the cost of a frame's start
abbrev pub version : ℕ → ℕ
version ticks = if ticks == 0 then 1 else 2

-- the one spelling of an image
abbrev pub spelling : Image → List ℕ
spelling i = magic ++ number w32 (version i.costs.dispatch) ++ number w32 (length i.tasks) ++ costs i.costs ++ flat_map task i.tasks

-- ---- what has a spelling

-- any number of four bytes
abbrev pub IsWord : ℕ → Type 0
IsWord n = n < 2 ^ 32

-- a length of an array, and a number of turns
abbrev pub IsLength : ℕ → Type 0
IsLength n = IsInRange 1 4096 n

abbrev pub InstrInRange : Instr → Type 0
InstrInRange (instrs.Const v) = FitsSigned w64 v
InstrInRange (instrs.Get a) = IsWord a
InstrInRange (instrs.Put a) = IsWord a
InstrInRange (instrs.GetAt a b) = IsWord a × IsLength b
InstrInRange (instrs.PutAt a b) = IsWord a × IsLength b
InstrInRange (instrs.Arith op) = Unit {0}
InstrInRange (instrs.Jump a) = IsWord a
InstrInRange (instrs.Branch a) = IsWord a
InstrInRange (instrs.Loop a b c) = IsWord a × IsLength b × IsWord c
InstrInRange (instrs.Receive a b) = IsWord a × IsWord b
InstrInRange (instrs.Send a) = IsWord a
InstrInRange (instrs.Hold a) = IsInRange 1 1000000000 a
InstrInRange (instrs.Copy a b c) = IsWord a × IsWord b × IsLength c
InstrInRange instrs.Mark = Unit {0}
InstrInRange instrs.End = Unit {0}

pub record LineInRange (l : Line) : Type 0 where
  pub depth : l.depth < 2 ^ 16
  pub instr : InstrInRange l.instr

-- the most words of a state of this kind
abbrev pub most_words : StateKind → ℕ
most_words kinds.Int = 1
most_words kinds.Bool = 1
most_words kinds.Array = 4096

pub record StateInRange (s : ImageState) : Type 0 where
  pub name : IsName s.name
  pub words : IsInRange 1 (most_words s.kind) s.words
  pub first : length s.first ≡ s.words
  pub values : All (FitsSigned w64) s.first

-- the words of all states together
abbrev pub state_words : List ImageState → ℕ
state_words ss = sum_by (λ s. s.words) ss

pub record NamesInRange (ns : List (List ℕ)) : Type 0 where
  pub count : length ns ≤ 256
  pub each : All IsName ns

pub record StatesInRange (ss : List ImageState) : Type 0 where
  pub count : length ss ≤ 256
  pub each : All StateInRange ss
  pub words : state_words ss ≤ 4096

pub record CodeInRange (lines : List Line) : Type 0 where
  pub count : IsInRange 1 65536 (length lines)
  pub each : All LineInRange lines

pub record TaskInRange (t : ImageTask) : Type 0 where
  pub name : IsName t.name
  pub period : IsWord t.period
  pub inputs : NamesInRange t.inputs
  pub outputs : NamesInRange t.outputs
  pub states : StatesInRange t.states
  pub cells : IsInRange (state_words t.states) 65536 t.cells
  pub code : CodeInRange t.code

-- an image that has a spelling
pub record InRange (i : Image) : Type 0 where
  pub costs : CostsInRange i.costs
  pub count : IsInRange 1 16 (length i.tasks)
  pub tasks : All TaskInRange i.tasks
