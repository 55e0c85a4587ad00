-- What a checked program is: no fault and no limit of the language stands in it, and its numbers are those that a check gives.
use Rattle.std.specs.Prelude.{◌≡◌, ◌≢◌, ℕ, ◌<◌, ◌≤◌, ℤ, pos, ◌⊎◌, Bool, true, false, List, ◌++◌, length, map, filter, filter_map, All, AllPairs, IsSome, FitsSigned}
use Rattle.std.specs.Int.{w64}
use Rattle.tcel_num.specs.Name.{IsName}
use Rattle.tcel_core.specs.declared.var.Keep.{Keep}
use Rattle.tcel_core.specs.declared.var.Var.{Var}
use Rattle.tcel_core.specs.declared.var.VarKind.{VarKind}
use Rattle.tcel_core.specs.Cells.{all_words}
use Rattle.tcel_core.specs.Frames.{is_state}
use Rattle.tcel_core.specs.Language.{Task}
use Rattle.tcel_core.specs.Limits.{IsCount, IsTime, IsWithinBounds, loop_depth, nodes}
use Rattle.tcel_core.specs.Numbering.{IsNumbered, do_numbers}
use Rattle.tcel_core.specs.Scope.{LoopsAreUntimed}
use Rattle.tcel_core.specs.Typing.{IsTyped}

-- whether a variable is kept to the end of its frame alone, as the source declares it
abbrev pub is_local : Keep → Bool
is_local Keep.State = false
is_local Keep.Local = true
is_local Keep.Temp = false

-- the value before the first frame: of a scalar state what was declared, of all others 0
abbrev pub IsFirstValue : VarKind → Keep → ℤ → Type 0
IsFirstValue VarKind.Int Keep.State first = FitsSigned w64 first
IsFirstValue VarKind.Bool Keep.State first = (first ≡ pos 0) ⊎ (first ≡ pos 1)
IsFirstValue _ _ first = first ≡ pos 0

-- an array has 1 to 4,096 words
abbrev pub IsKind : VarKind → Type 0
IsKind VarKind.Int = Unit {0}
IsKind VarKind.Bool = Unit {0}
IsKind (VarKind.Array n) = IsCount n

-- a declared variable
pub record IsDeclared (v : Var) : Type 0 where
  pub named : IsSome v.name
  pub kind : IsKind v.kind
  pub first : IsFirstValue v.kind v.keep v.first

-- the names that a task declares
abbrev pub declared_names : Task → List (List ℕ)
declared_names task = filter_map (λ (v : Var). v.name) task.vars ++ (task.inputs ++ task.outputs)

-- what a task declares
pub record HasSoundDeclarations (task : Task) : Type 0 where
  pub variables : All IsDeclared task.vars
  -- states stand first, then locals, and there is nothing else
  pub order : task.vars ≡ filter (λ (v : Var). is_state v.keep) task.vars ++ filter (λ (v : Var). is_local v.keep) task.vars
  pub words : all_words task.vars ≤ 4096
  pub names : All IsName (declared_names task)
  pub distinct : AllPairs ◌≢◌ (declared_names task)
  pub most : length (declared_names task) ≤ 256

-- what a task does
pub record HasSoundBody (task : Task) : Type 0 where
  pub typed : IsTyped (record { vars = task.vars; inputs = length task.inputs; outputs = length task.outputs }) task.body
  pub bounded : IsWithinBounds task.body
  pub untimed : LoopsAreUntimed task.body
  pub depth : loop_depth task.body ≤ 3
  pub nodes : nodes task.body ≤ 4000
  pub windows : length (do_numbers task.body) ≤ 31
  pub numbered : IsNumbered task.body

-- 1 to 1,000
pub record IsPriority (n : ℕ) : Type 0 where
  pub some : 1 ≤ n
  pub most : n ≤ 1000

-- a task of a checked program
pub record IsSoundTask (task : Task) : Type 0 where
  pub name : IsName task.name
  pub priority : IsPriority task.priority
  pub period : IsTime task.period
  pub deadline : IsTime task.deadline
  pub declarations : HasSoundDeclarations task
  pub body : HasSoundBody task

-- the tasks of a checked program: 1 to 16 of them, of different names, in falling priority
pub record IsSoundSet (tasks : List Task) : Type 0 where
  pub some : 1 ≤ length tasks
  pub most : length tasks ≤ 16
  pub each : All IsSoundTask tasks
  pub names : AllPairs ◌≢◌ (map (λ (task : Task). task.name) tasks)
  pub falling : AllPairs (λ (a b : Task). b.priority < a.priority) tasks
