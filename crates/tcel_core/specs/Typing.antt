-- Types: each expression of a checked program has the type that is wanted of it, and each number names a variable or port of its task.
use Rattle.std.specs.Prelude.{◌≡◌, ℕ, ◌<◌, ℤ, pos, ◌⊎◌, true, false, List, Option, None, Some, slice_get, FitsSigned}
use Rattle.std.specs.Int.{w64}
use Rattle.tcel_num.specs.declared.op.Op.{Op}
use Rattle.tcel_num.specs.declared.op.Op.TheVariants.{Not, And, Or, Equal, Unequal, Less, LessOrEqual, Greater, GreaterOrEqual}
use Rattle.tcel_num.specs.Arithmetic.{is_unary}
use Rattle.tcel_core.specs.declared.var.Var.{Var}
use Rattle.tcel_core.specs.declared.var.VarKind.{VarKind}
use Rattle.tcel_core.specs.Language.{Expr, number, variable, element, unary, binary, Block, done, next, Stmt, item, choice, timed, Act, assign, assign_at, receive, send, for_loop, while_loop, copy}

-- what a value is
pub data ValueType : Type 0 where
  int : ValueType
  bool : ValueType

-- what an operator takes
abbrev pub operand_type : Op → ValueType
operand_type Not = bool
operand_type And = bool
operand_type Or = bool
operand_type _ = int

-- what it gives
abbrev pub result_type : Op → ValueType
result_type Not = bool
result_type And = bool
result_type Or = bool
result_type Equal = bool
result_type Unequal = bool
result_type Less = bool
result_type LessOrEqual = bool
result_type Greater = bool
result_type GreaterOrEqual = bool
result_type _ = int

-- the type of a scalar; an array has none
abbrev pub scalar_type : VarKind → Option ValueType
scalar_type VarKind.Int = Some int
scalar_type VarKind.Bool = Some bool
scalar_type (VarKind.Array n) = None

-- a scalar of this type
abbrev pub IsScalar : List Var → ℕ → ValueType → Type 0
IsScalar vars v type = (x : Var) × (slice_get vars v ≡ Some x) × (scalar_type x.kind ≡ Some type)

-- an array
abbrev pub IsArray : List Var → ℕ → Type 0
IsArray vars v = (x : Var) × (slice_get vars v ≡ Some x) × (scalar_type x.kind ≡ None)

-- a number of 64 bits; as a truth value it is 0 or 1
abbrev pub IsNumberOf : ValueType → ℤ → Type 0
IsNumberOf int n = FitsSigned w64 n
IsNumberOf bool n = (n ≡ pos 0) ⊎ (n ≡ pos 1)

-- an expression of this type
abbrev pub HasType : List Var → Expr → ValueType → Type 0
HasType vars (number n) type = IsNumberOf type n
HasType vars (variable v) type = IsScalar vars v type
HasType vars (element v i) type = (int ≡ type) × IsArray vars v × HasType vars i int
HasType vars (unary op e) type = (is_unary op ≡ true) × (result_type op ≡ type) × HasType vars e (operand_type op)
HasType vars (binary op a b) type =
    (is_unary op ≡ false) × (result_type op ≡ type) × HasType vars a (operand_type op) × HasType vars b (operand_type op)

-- what a body may name: its task's variables, and this many inputs and outputs
pub record Names : Type 0 where
  pub vars : List Var
  pub inputs : ℕ
  pub outputs : ℕ

-- an assigned value has its variable's type, indexes and values of arrays and ports are ints, tests are bools, and there is no copy
abbrev mutual
  pub IsTyped : Names → Block → Type 0
  IsTyped names done = Unit {0}
  IsTyped names (next s rest) = StmtIsTyped names s × IsTyped names rest

  pub StmtIsTyped : Names → Stmt → Type 0
  StmtIsTyped names (item id act) = ActIsTyped names act
  StmtIsTyped names (choice id test held other) = HasType names.vars test bool × IsTyped names held × IsTyped names other
  StmtIsTyped names (timed id window body) = IsTyped names body

  pub ActIsTyped : Names → Act → Type 0
  ActIsTyped names (assign v e) = (type : ValueType) × IsScalar names.vars v type × HasType names.vars e type
  ActIsTyped names (assign_at v i e) = IsArray names.vars v × HasType names.vars i int × HasType names.vars e int
  ActIsTyped names (receive v port) = IsScalar names.vars v int × (port < names.inputs)
  ActIsTyped names (send e port) = HasType names.vars e int × (port < names.outputs)
  ActIsTyped names (for_loop v n body) = IsScalar names.vars v int × IsTyped names body
  ActIsTyped names (while_loop test n body) = HasType names.vars test bool × IsTyped names body
  ActIsTyped names (copy from to) = ⊥
