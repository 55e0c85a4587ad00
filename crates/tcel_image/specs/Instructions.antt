-- What is fixed about an instruction: its cycles, how it moves the stack, what it names, and where it may lead.
use Rattle.std.specs.Prelude.{ℕ, ◌+◌, ◌-◌, ◌*◌, List, [], ◌∷◌, if◌then◌else◌}
use Rattle.tcel_num.specs.declared.op.Op.{Op}
use Rattle.tcel_num.specs.declared.op.Op.TheVariants.{Mul, Div, Rem}
use Rattle.tcel_num.specs.Arithmetic.{is_unary}
use Rattle.tcel_target.specs.declared.costs.Costs.{Costs}
use Rattle.tcel_image.specs.declared.image.Instr.{Instr}
use Rattle.tcel_image.specs.declared.image.Instr.TheVariants.{Const, Get, Put, GetAt, PutAt, Arith, Jump, Branch, Loop, Receive, Send, Hold, Copy, Mark, End}
use Rattle.tcel_image.specs.declared.image.Line.{Line}

-- the cycles of an operator
abbrev pub operator_cycles : Costs → Op → ℕ
operator_cycles costs Mul = costs.multiply
operator_cycles costs Div = costs.divide
operator_cycles costs Rem = costs.divide
operator_cycles costs _ = costs.arith

-- the cycles that the cost table declares for an instruction; a hold takes one at least, and ends by the time
abbrev pub cycles : Costs → Instr → ℕ
cycles costs (Const value) = costs.const_
cycles costs (Get cell) = costs.load
cycles costs (Put cell) = costs.store
cycles costs (GetAt first length) = costs.load_at
cycles costs (PutAt first length) = costs.store_at
cycles costs (Arith op) = operator_cycles costs op
cycles costs (Jump target) = costs.jump
cycles costs (Branch target) = costs.branch
cycles costs (Loop cell turns target) = costs.loop_
cycles costs (Receive port cell) = costs.receive
cycles costs (Send port) = costs.send
cycles costs (Hold bound) = 1
cycles costs (Copy from to length) = length * (costs.load + costs.store)
cycles costs Mark = costs.mark
cycles costs End = costs.end

-- how many values an instruction pops
abbrev pub pops : Instr → ℕ
pops (Put cell) = 1
pops (GetAt first length) = 1
pops (PutAt first length) = 2
pops (Arith op) = if is_unary op then 1 else 2
pops (Branch target) = 1
pops (Send port) = 1
pops _ = 0

-- how many values an instruction pushes
abbrev pub pushes : Instr → ℕ
pushes (Const value) = 1
pushes (Get cell) = 1
pushes (GetAt first length) = 1
pushes (Arith op) = 1
pushes _ = 0

-- the depth of the stack after a line
abbrev pub depth_after : Line → ℕ
depth_after line = line.depth - pops line.instr + pushes line.instr

-- the jump targets that an instruction names
abbrev pub targets : Instr → List ℕ
targets (Jump target) = target ∷ []
targets (Branch target) = target ∷ []
targets (Loop cell turns target) = target ∷ []
targets _ = []

-- a range of cells
pub record Range : Type 0 where
  pub from : ℕ
  pub length : ℕ

abbrev pub one_cell : ℕ → Range
one_cell cell = record { from = cell; length = 1 }

-- the cells and ranges of cells that an instruction names
abbrev pub ranges : Instr → List Range
ranges (Get cell) = one_cell cell ∷ []
ranges (Put cell) = one_cell cell ∷ []
ranges (GetAt first length) = record { from = first; length = length } ∷ []
ranges (PutAt first length) = record { from = first; length = length } ∷ []
ranges (Loop cell turns target) = one_cell cell ∷ []
ranges (Receive port cell) = one_cell cell ∷ []
ranges (Copy from to length) = record { from = from; length = length } ∷ record { from = to; length = length } ∷ []
ranges _ = []

-- the places that may come next after an instruction at a place
abbrev pub next_places : ℕ → Instr → List ℕ
next_places place (Jump target) = target ∷ []
next_places place (Branch target) = target ∷ (place + 1) ∷ []
next_places place (Loop cell turns target) = target ∷ (place + 1) ∷ []
next_places place End = []
next_places place _ = (place + 1) ∷ []
