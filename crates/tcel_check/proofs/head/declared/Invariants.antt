use Rattle.std.proofs.Common.{◌≡◌, ℕ, List, map, take}
use Rattle.tcel_check.specs.Known.{kind_in}
use Rattle.tcel_check.specs.Least.{Adds}
use Rattle.tcel_check.specs.Rows.{repeats, same_decl, twice_mark}
use Rattle.std.specs.List.{AllByRecursion}
use Rattle.tcel_check.specs.Spelled.{IsSpelledDecl}
use Rattle.tcel_check.specs.Types.{kind_of}
use Rattle.tcel_check.proofs.head.declared.Given as goal

abbrev pub invariant-loop-decl : goal.invariant-loop-decl
invariant-loop-decl l = record {
  known : (name : List ℕ) → kind_in l.names name ≡ kind_of (take l.decl-index l.decls) name;
  spelled : AllByRecursion IsSpelledDecl (take l.decl-index l.decls);
  twice : Adds l.fn.least l.least (map twice_mark (repeats same_decl (take l.decl-index l.decls)));
}
