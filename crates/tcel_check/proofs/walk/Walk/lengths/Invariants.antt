use Rattle.std.proofs.Common.{ℕ, List, Option, take}
use Rattle.std.specs.Prelude.{flat_map}
use Rattle.tcel_tree.specs.declared.task.Decl.{Decl}
use Rattle.tcel_tree.specs.declared.task.DeclKind.{DeclKind}
use Rattle.tcel_check.specs.Sights.{length_sights}
use Rattle.tcel_check.specs.Walks.{Saw}
use Rattle.tcel_check.proofs.walk.Walk.lengths.Given as goal

abbrev pub invariant-loop-decl : goal.invariant-loop-decl
invariant-loop-decl l = (kind : List ℕ → Option DeclKind) → Saw kind l.fn.self l.self (flat_map (λ (d : Decl). length_sights d.kind) (take l.decl-index l.decls))
