-- Types of values, and what a declaration says of a name.
use Rattle.std.specs.Prelude.{ℕ, Bool, true, false, List, [], ◌∷◌, Option, Some, None, if◌then◌else◌, nat_eq}
use Rattle.std.specs.Cmp.Lexicographic.{pointwise}
use Rattle.tcel_core.specs.Typing as core
use Rattle.tcel_tree.specs.declared.task.Decl.{Decl}
use Rattle.tcel_tree.specs.declared.task.DeclKind.{DeclKind}
use Rattle.tcel_tree.specs.declared.task.DeclKind.TheVariants.{Input, Output, Int, Bool as bools, Array}
use Rattle.tcel_check.specs.declared.value_type.ValueType.{ValueType}

abbrev pub named : core.ValueType → ValueType
named core.int = ValueType.Int
named core.bool = ValueType.Bool

-- a value of this type where that type is wanted, or any
abbrev pub is_wanted : ValueType → Option ValueType → Bool
is_wanted given None = true
is_wanted ValueType.Int (Some ValueType.Int) = true
is_wanted ValueType.Bool (Some ValueType.Bool) = true
is_wanted _ _ = false

-- the type of a scalar variable
abbrev pub scalar_type : DeclKind → Option ValueType
scalar_type (Int state first) = Some ValueType.Int
scalar_type (bools state first) = Some ValueType.Bool
scalar_type _ = None

abbrev pub is_array : DeclKind → Bool
is_array (Array state size) = true
is_array _ = false

abbrev pub is_input : DeclKind → Bool
is_input Input = true
is_input _ = false

abbrev pub is_output : DeclKind → Bool
is_output Output = true
is_output _ = false

abbrev pub same_name : List ℕ → List ℕ → Bool
same_name = pointwise nat_eq

-- what the first declaration of a name says, where there is one
abbrev pub kind_of : List Decl → List ℕ → Option DeclKind
kind_of [] name = None
kind_of (d ∷ ds) name = if same_name d.name name then Some d.kind else kind_of ds name

-- the type of the values that a name takes: a scalar variable's
abbrev pub type_of : Option DeclKind → Option ValueType
type_of None = None
type_of (Some kind) = scalar_type kind
