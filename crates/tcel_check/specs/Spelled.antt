-- What a text can spell: names are names, and numbers fit 64 bits.
use Rattle.std.specs.Prelude.{FitsSigned, IfSome}
use Rattle.std.specs.Int.{w64}
use Rattle.std.specs.List.{AllByRecursion}
use Rattle.tcel_num.specs.Name.{IsName}
use Rattle.tcel_tree.specs.declared.task.Decl.{Decl}
use Rattle.tcel_tree.specs.declared.task.DeclKind.{DeclKind}
use Rattle.tcel_tree.specs.declared.task.DeclKind.TheVariants.{Int}
use Rattle.tcel_tree.specs.Language.{Task}
use Rattle.tcel_check.specs.Rows.{task_sights}
use Rattle.tcel_check.specs.Sights.{Sight, literal, name}

abbrev pub IsSpelled : Sight → Type 0
IsSpelled (literal at n wanted) = FitsSigned w64 n
IsSpelled (name at x purpose) = IsName x
IsSpelled _ = Unit {0}

abbrev pub IsSpelledKind : DeclKind → Type 0
IsSpelledKind (Int state first) = IfSome first (FitsSigned w64)
IsSpelledKind _ = Unit {0}

pub record IsSpelledDecl (d : Decl) : Type 0 where
  pub name : IsName d.name
  pub kind : IsSpelledKind d.kind

pub record IsSpelledTask (t : Task) : Type 0 where
  pub name : IsName t.name
  pub decls : AllByRecursion IsSpelledDecl t.decls
  pub sights : AllByRecursion IsSpelled (task_sights t)
