use Rattle.std.proofs.Common.{Bool, List, [], map, filter}
use Rattle.tcel_core.specs.declared.var.Var.{Var}
use Rattle.tcel_core.specs.Kinds.{is_fetched}
use Rattle.tcel_core.specs.Language.{Block}
use Rattle.tcel_core.specs.Numbering.{numbers_from}
use Rattle.tcel_core.specs.Parts.{copies, copy_of, number_of}
use Rattle.tcel_rename.specs.Halves.{Adds, IsPlan}
use Rattle.tcel_rename.specs.Sets.{by_list}
use Rattle.tcel_rename.proofs.two_parts.fetched.Given as goal

abbrev pub invariant-loop-v : goal.invariant-loop-v
invariant-loop-v l =
    (vars : List Var) (whole : Block) (list : List Bool) → IsPlan (by_list vars whole list) l.sets l.numbers →
    Adds [] l.stmts (copies (map (λ v. (v, number_of (by_list vars whole list) (copy_of v))) (filter (is_fetched (by_list vars whole list)) (numbers_from 0 l.v))))
