-- Which image bytes spell, and else their first fault: from front to back, field by field.
use Rattle.std.specs.Prelude.{◌≡◌, ℕ, zero, suc, ◌-◌, ◌+◌, ℤ, List, [], ◌∷◌, length, take, drop, Result, Ok, Err, nat_lt, ◌==◌, min, if◌then◌else◌, nat_eq}
use Rattle.std.specs.List.{starts_with, prefix_len}
use Rattle.std.specs.Int.{Width, w16, w32, w64, byte_len, from_le_bytes, cast_signed, is_in_range}
use Rattle.tcel_num.specs.Name.{may_start, may_follow, is_reserved}
use Rattle.tcel_num.specs.declared.op.Op.{Op}
use Rattle.tcel_num.specs.declared.op.Op.TheVariants as ops
use Rattle.tcel_target.specs.declared.costs.Costs.{Costs}
use Rattle.tcel_image.specs.declared.fault.Fault.{Fault}
use Rattle.tcel_image.specs.declared.fault.Fault.TheVariants as faults
use Rattle.tcel_image.specs.declared.fault.ImageFail.{ImageFail}
use Rattle.tcel_image.specs.declared.fault.ImageFail.TheVariants as fails
use Rattle.tcel_image.specs.declared.fault.ReadError.{ReadError}
use Rattle.tcel_image.specs.declared.fault.ReadError.TheVariants as errors
use Rattle.tcel_image.specs.declared.image.Image.{Image}
use Rattle.tcel_image.specs.declared.image.ImageTask.{ImageTask}
use Rattle.tcel_image.specs.declared.image.ImageState.{ImageState}
use Rattle.tcel_image.specs.declared.image.StateKind.{StateKind}
use Rattle.tcel_image.specs.declared.image.StateKind.TheVariants as kinds
use Rattle.tcel_image.specs.declared.image.Line.{Line}
use Rattle.tcel_image.specs.declared.image.Instr.{Instr}
use Rattle.tcel_image.specs.declared.image.Instr.TheVariants as instrs
use Rattle.tcel_image.specs.declared.operands.Operands.{Operands}
use Rattle.tcel_image.specs.declared.operands.Range.{Range}
use Rattle.tcel_image.specs.Spelling.{magic, most_words, state_words}

-- A reader takes a value from the front and leaves the bytes after it, or meets a fault. A fault is told
-- by the number of bytes from its place to the end.
abbrev pub Reader : Type 0 → Type 0
Reader A = List ℕ → Result (A × List ℕ) Fault

abbrev pub after : {A B : Type 0} → Result (A × List ℕ) Fault → (A → Reader B) → Result (B × List ℕ) Fault
after (Ok x) next = next x.0 x.1
after (Err f) next = Err f

-- one field after the other
infixl 10 ◌>>=◌
abbrev pub ◌>>=◌ : {A B : Type 0} → Reader A → (A → Reader B) → Reader B
r >>= next = λ bytes. after (r bytes) next

-- a value with no bytes of its own
abbrev pub done : {A : Type 0} → A → Reader A
done x = λ bytes. Ok (x, bytes)

-- ---- fields

-- a number of so many bytes within a range
unfoldable pub number_at : Width → ℕ → ℕ → Reader ℕ
number_at w least greatest bytes =
    if nat_lt (length bytes) (byte_len w) then Err faults.Cut
    else (if is_in_range least greatest (from_le_bytes w (take (byte_len w) bytes))
    then Ok (from_le_bytes w (take (byte_len w) bytes), drop (byte_len w) bytes)
    else Err (faults.Value (length bytes)))

-- one byte within a range
unfoldable pub byte_at : ℕ → ℕ → Reader ℕ
byte_at least greatest [] = Err faults.Cut
byte_at least greatest (b ∷ rest) = if is_in_range least greatest b then Ok (b, rest) else Err (faults.Value (length (b ∷ rest)))

-- any four bytes
abbrev pub word_at : Reader ℕ
word_at = number_at w32 0 4294967295

-- any eight bytes, as a two's complement
unfoldable pub value_at : Reader ℤ
value_at = do
  n ← number_at w64 0 18446744073709551615
  done (cast_signed w64 n)

-- so many things, one after the other
unfoldable pub many_at : {A : Type 0} → Reader A → ℕ → Reader (List A)
many_at one zero = done []
many_at one (suc n) = do
  first ← one
  others ← many_at one n
  done (first ∷ others)

-- ---- names

-- how many bytes from the front a name can have
abbrev pub name_front : List ℕ → ℕ
name_front [] = 0
name_front (b ∷ bs) = if may_start b then 1 + prefix_len may_follow bs else 0

-- So many bytes that are a name. The fault of others is at the first byte with which they can't be one,
-- and for a reserved word at the length byte before it.
unfoldable pub text_at : ℕ → Reader (List ℕ)
text_at count bytes =
    if nat_lt (length bytes) count then Err faults.Cut
    else (if nat_lt (name_front (take count bytes)) count then Err (faults.Value (length bytes - name_front (take count bytes)))
    else (if is_reserved (take count bytes) then Err (faults.Value (length bytes + 1))
    else Ok (take count bytes, drop count bytes)))

-- a length byte and the name
unfoldable pub name_at : Reader (List ℕ)
name_at = do
  count ← byte_at 1 32
  text_at count

unfoldable pub names_at : Reader (List (List ℕ))
names_at = do
  count ← number_at w16 0 256
  many_at name_at count

-- ---- instructions

-- any number of four bytes
abbrev pub any_word : Range
any_word = record { least = 0; greatest = 4294967295 }

-- the length of an array or of a copy, or the turns of a loop
abbrev pub a_length : Range
a_length = record { least = 1; greatest = 4096 }

-- the bound of a hold
abbrev pub a_bound : Range
a_bound = record { least = 1; greatest = 1000000000 }

-- an operand that the instruction does not have
abbrev pub unused : Range
unused = record { least = 0; greatest = 0 }

-- the three operands, each within its range
unfoldable pub operands_at : Range → Range → Range → Reader Operands
operands_at in_a in_b in_c = do
  a ← number_at w32 in_a.least in_a.greatest
  b ← number_at w32 in_b.least in_b.greatest
  c ← number_at w32 in_c.least in_c.greatest
  done (record { a = a; b = b; c = c })

-- a value in the place of the first two operands
unfoldable pub const_at : Reader Instr
const_at = do
  v ← value_at
  c ← number_at w32 0 0
  done (instrs.Const v)

-- the operator with this number
abbrev pub op_from : ℕ → Op
op_from n =
    if n == 1 then ops.Add else (if n == 2 then ops.Sub else (if n == 3 then ops.Mul else (if n == 4 then ops.Div else (
    if n == 5 then ops.Rem else (if n == 6 then ops.Neg else (if n == 7 then ops.Not else (if n == 8 then ops.And else (
    if n == 9 then ops.Or else (if n == 10 then ops.Equal else (if n == 11 then ops.Unequal else (if n == 12 then ops.Less else (
    if n == 13 then ops.LessOrEqual else (if n == 14 then ops.Greater else ops.GreaterOrEqual)))))))))))))

-- only opcode 6 has an operator
abbrev pub operator_at : ℕ → Reader ℕ
operator_at opcode = if opcode == 6 then byte_at 1 15 else byte_at 0 0

-- which operands an instruction with this opcode has, and which instruction it is
unfoldable pub instr_at : ℕ → ℕ → Reader Instr
instr_at opcode operator =
    if opcode == 1 then const_at else (
    if opcode == 2 then (operands_at any_word unused unused >>= λ o. done (instrs.Get o.a)) else (
    if opcode == 3 then (operands_at any_word unused unused >>= λ o. done (instrs.Put o.a)) else (
    if opcode == 4 then (operands_at any_word a_length unused >>= λ o. done (instrs.GetAt o.a o.b)) else (
    if opcode == 5 then (operands_at any_word a_length unused >>= λ o. done (instrs.PutAt o.a o.b)) else (
    if opcode == 6 then (operands_at unused unused unused >>= λ o. done (instrs.Arith (op_from operator))) else (
    if opcode == 7 then (operands_at any_word unused unused >>= λ o. done (instrs.Jump o.a)) else (
    if opcode == 8 then (operands_at any_word unused unused >>= λ o. done (instrs.Branch o.a)) else (
    if opcode == 9 then (operands_at any_word a_length any_word >>= λ o. done (instrs.Loop o.a o.b o.c)) else (
    if opcode == 10 then (operands_at any_word any_word unused >>= λ o. done (instrs.Receive o.a o.b)) else (
    if opcode == 11 then (operands_at any_word unused unused >>= λ o. done (instrs.Send o.a)) else (
    if opcode == 12 then (operands_at a_bound unused unused >>= λ o. done (instrs.Hold o.a)) else (
    if opcode == 13 then (operands_at any_word any_word a_length >>= λ o. done (instrs.Copy o.a o.b o.c)) else (
    if opcode == 14 then (operands_at unused unused unused >>= λ o. done instrs.Mark) else
    (operands_at unused unused unused >>= λ o. done instrs.End))))))))))))))

unfoldable pub line_at : Reader Line
line_at = do
  opcode ← byte_at 1 15
  operator ← operator_at opcode
  depth ← number_at w16 0 65535
  instr ← instr_at opcode operator
  done (record { instr = instr; depth = depth })

unfoldable pub code_at : Reader (List Line)
code_at = do
  count ← number_at w32 1 65536
  many_at line_at count

-- ---- states

abbrev pub kind_from : ℕ → StateKind
kind_from n = if n == 0 then kinds.Int else (if n == 1 then kinds.Bool else kinds.Array)

-- a state of a task whose earlier states have so many words
unfoldable pub state_at : ℕ → Reader ImageState
state_at used = do
  name ← name_at
  kind ← byte_at 0 2
  words ← number_at w32 1 (min (most_words (kind_from kind)) (4096 - used))
  first ← many_at value_at words
  done (record { name = name; kind = kind_from kind; words = words; first = first })

unfoldable pub states_from : ℕ → ℕ → Reader (List ImageState)
states_from used zero = done []
states_from used (suc n) = do
  first ← state_at used
  others ← states_from (used + first.words) n
  done (first ∷ others)

unfoldable pub states_at : Reader (List ImageState)
states_at = do
  count ← number_at w16 0 256
  states_from 0 count

-- ---- tasks and images

unfoldable pub task_at : Reader ImageTask
task_at = do
  name ← name_at
  period ← word_at
  sliced ← byte_at 0 1
  inputs ← names_at
  outputs ← names_at
  states ← states_at
  cells ← number_at w32 (state_words states) 65536
  code ← code_at
  done (record { name = name; period = period; sliced = sliced == 1; inputs = inputs; outputs = outputs; states = states; cells = cells; code = code })

abbrev pub cost_at : Reader ℕ
cost_at = number_at w32 1 1000

-- the cost of a frame's start: version 1 has none, and version 2 has one that isn't 0
unfoldable pub dispatch_at : ℕ → Reader ℕ
dispatch_at version = if version == 1 then done 0 else cost_at

-- the costs of instructions in the order of their keys, and that of a frame's start
unfoldable pub costs_at : ℕ → Reader Costs
costs_at version = do
  const_ ← cost_at
  load ← cost_at
  store ← cost_at
  load_at ← cost_at
  store_at ← cost_at
  arith ← cost_at
  multiply ← cost_at
  divide ← cost_at
  jump ← cost_at
  branch ← cost_at
  loop_ ← cost_at
  receive ← cost_at
  send ← cost_at
  mark ← cost_at
  end ← cost_at
  dispatch ← dispatch_at version
  done (record { const_ = const_; load = load; store = store; load_at = load_at; store_at = store_at; arith = arith; multiply = multiply; divide = divide; jump = jump; branch = branch; loop_ = loop_; receive = receive; send = send; mark = mark; end = end; dispatch = dispatch })

unfoldable pub magic_at : Reader (List ℕ)
magic_at bytes = if starts_with nat_eq bytes magic then Ok (magic, drop 4 bytes) else Err faults.Magic

unfoldable pub image_at : Reader Image
image_at = do
  front ← magic_at
  version ← number_at w32 1 2
  count ← number_at w32 1 16
  costs ← costs_at version
  tasks ← many_at task_at count
  done (record { costs = costs; tasks = tasks })

-- a reader that takes all bytes
abbrev pub ended : {A : Type 0} → Result (A × List ℕ) Fault → Result A Fault
ended (Ok x) = if length x.1 == 0 then Ok x.0 else Err (faults.Surplus (length x.1))
ended (Err f) = Err f

-- ---- the answer

-- a fault of so many bytes, at its place from the front
abbrev pub fault_in : ℕ → Fault → ImageFail
fault_in total faults.Magic = fails.BadMagic
fault_in total faults.Cut = fails.Short total
fault_in total (faults.Value left) = fails.BadField (total - left)
fault_in total (faults.Surplus left) = fails.Extra (total - left)

abbrev pub placed : {A : Type 0} → ℕ → Result A Fault → Result A ImageFail
placed total (Ok x) = Ok x
placed total (Err f) = Err (fault_in total f)

-- the image that all of the bytes spell, or their first fault
unfoldable pub reading : List ℕ → Result Image ImageFail
reading bytes = placed (length bytes) (ended (image_at bytes))

-- What a call answered is what the definition gives, unless memory ran out.
abbrev pub Answers : {A : Type 0} → Result A ImageFail → Result A ImageFail → Type 0
Answers (Ok x) given = given ≡ Ok x
Answers (Err fails.NoMemory) given = Unit {0}
Answers (Err fails.BadMagic) given = given ≡ Err fails.BadMagic
Answers (Err (fails.Short at)) given = given ≡ Err (fails.Short at)
Answers (Err (fails.BadField at)) given = given ≡ Err (fails.BadField at)
Answers (Err (fails.Extra at)) given = given ≡ Err (fails.Extra at)

-- The same of a reader, seen by view.
abbrev pub Fails : {A : Type 0} → ReadError → Result A Fault → Type 0
Fails errors.Memory given = Unit {0}
Fails (errors.Fault f) given = given ≡ Err f

abbrev pub Gives : {X A : Type 0} → (X → A) → Result X ReadError → Result A Fault → Type 0
Gives view (Ok x) given = given ≡ Ok (view x)
Gives view (Err e) given = Fails e given
