use Rattle.std.proofs.Common.{◌≡◌, ◌+◌, Bool, List, length, filter, slice_index_or}
use Rattle.tcel_core.specs.declared.var.Var.{Var}
use Rattle.tcel_core.specs.Kinds.{is_live}
use Rattle.tcel_core.specs.Language.{Block}
use Rattle.tcel_core.specs.Numbering.{numbers_from}
use Rattle.tcel_rename.specs.Halves.{Adds, IsPlan, saves_below, restores_below}
use Rattle.tcel_rename.specs.Sets.{by_list}
use Rattle.tcel_rename.proofs.halves.save.Given as goal

abbrev pub invariant-loop-v : goal.invariant-loop-v
invariant-loop-v l =
    (vars : List Var) (whole : Block) (list : List Bool) → IsPlan (by_list vars whole list) l.sets l.numbers →
    Adds l.initial.first l.first (saves_below (by_list vars whole list) l.id l.v)
    × Adds l.initial.rest l.rest (restores_below (by_list vars whole list) l.id l.v)
    × (l.next ≡ slice_index_or l.numbers.starts l.id 0 + length (filter (is_live (by_list vars whole list) l.id) (numbers_from 0 l.v)))
