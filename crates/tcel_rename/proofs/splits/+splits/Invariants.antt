use Rattle.std.proofs.Common.{◌≤◌, List, map, length, drop}
use Rattle.tcel_core.specs.declared.var.Var.{Var}
use Rattle.tcel_core.specs.Language.{Block}
use Rattle.tcel_core.specs.Paths.{points}
use Rattle.tcel_core.specs.Plain.{block_of, plain_stmt}
use Rattle.tcel_rename.specs.Sets.{by_list}
use Rattle.tcel_rename.specs.Splits.{AreLive, FindsSides}
use Rattle.tcel_rename.proofs.splits.+splits.Given as goal

abbrev pub decreases-split_body : goal.decreases-split_body
decreases-split_body l = goal.size-split_body l

abbrev pub decreases-split_stmt : goal.decreases-split_stmt
decreases-split_stmt l = goal.size-split_stmt l

abbrev pub invariant-split_body-loop-left : goal.invariant-split_body-loop-left
invariant-split_body-loop-left l =
    record {
      within : l.left ≤ length l.stmts;
      found : (vars : List Var) (whole : Block) → AreLive (by_list vars whole l.kept.list) l.lives →
          FindsSides (by_list vars whole l.kept.list) (points (block_of (map plain_stmt (drop l.left l.stmts)))) l.initial.splits l.sides l.splits;
    }

abbrev pub decreases-split_body-loop-left : goal.decreases-split_body-loop-left
decreases-split_body-loop-left l = l.left
