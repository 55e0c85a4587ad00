use Rattle.std.proofs.Common.{◌≡◌, ◌≤◌, List, map, length, drop}
use Rattle.tcel_core.specs.declared.var.Var.{Var}
use Rattle.tcel_core.specs.Language.{Block}
use Rattle.tcel_core.specs.Paths.{points}
use Rattle.tcel_core.specs.Plain.{block_of, plain_stmt}
use Rattle.tcel_rename.specs.Sets.{FindsInBlock, by_list, holds_among}
use Rattle.tcel_rename.proofs.kinds.+kinds.Given as goal

abbrev pub decreases-find_in_body : goal.decreases-find_in_body
decreases-find_in_body l = goal.size-find_in_body l

abbrev pub decreases-find_in_stmt : goal.decreases-find_in_stmt
decreases-find_in_stmt l = goal.size-find_in_stmt l

abbrev pub invariant-find_in_body-loop-left : goal.invariant-find_in_body-loop-left
invariant-find_in_body-loop-left l =
    record {
      within : l.left ≤ length l.stmts;
      holds : (vars : List Var) (whole : Block) → l.holds ≡ holds_among (by_list vars whole l.kept.list) (points (block_of (map plain_stmt (drop l.left l.stmts))));
      found : (vars : List Var) (whole : Block) → FindsInBlock (by_list vars whole l.kept.list) (block_of (map plain_stmt (drop l.left l.stmts))) l.initial.found l.found;
    }

abbrev pub decreases-find_in_body-loop-left : goal.decreases-find_in_body-loop-left
decreases-find_in_body-loop-left l = l.left
