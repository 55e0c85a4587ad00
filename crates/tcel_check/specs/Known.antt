-- What is known of declared names.
use Rattle.std.specs.Prelude.{ℕ, List, Option, Some, None, if◌then◌else◌, nat_eq}
use Rattle.std.specs.Cmp.Lexicographic.{pointwise}
use Rattle.indexmap.specs.IndexMap.{get}
use Rattle.tcel_check.specs.declared.names.Names.{Names}
use Rattle.tcel_check.specs.Types.{same_name}
use Rattle.tcel_tree.specs.declared.task.Decl.{Decl}
use Rattle.tcel_tree.specs.declared.task.DeclKind.{DeclKind}

-- what the first declaration of this name says
abbrev pub kind_in : Names → List ℕ → Option DeclKind
kind_in names name = get (pointwise nat_eq) names.kinds name

-- what is known of a name behind one more declaration
abbrev pub known_behind : Option DeclKind → Decl → List ℕ → Option DeclKind
known_behind (Some kind) d name = Some kind
known_behind None d name = if same_name d.name name then Some d.kind else None
