use Rattle.std.proofs.Common.{◌≡◌, ◌≤◌, List, map, length, drop}
use Rattle.tcel_core.specs.declared.var.Var.{Var}
use Rattle.tcel_core.specs.Language.{Block}
use Rattle.tcel_core.specs.Paths.{points}
use Rattle.tcel_core.specs.Plain.{block_of, plain_stmt}
use Rattle.tcel_rename.specs.Lives.{FindsLiveInBlock}
use Rattle.tcel_rename.specs.Sets.{by_list, holds_among}
use Rattle.tcel_rename.proofs.live.+live.Given as goal

abbrev pub decreases-live_in_body : goal.decreases-live_in_body
decreases-live_in_body l = goal.size-live_in_body l

abbrev pub decreases-live_in_stmt : goal.decreases-live_in_stmt
decreases-live_in_stmt l = goal.size-live_in_stmt l

abbrev pub invariant-live_in_body-loop-left : goal.invariant-live_in_body-loop-left
invariant-live_in_body-loop-left l =
    record {
      within : l.left ≤ length l.stmts;
      holds : (vars : List Var) (whole : Block) → l.holds ≡ holds_among (by_list vars whole l.kept.list) (points (block_of (map plain_stmt (drop l.left l.stmts))));
      found : (vars : List Var) (whole : Block) →
          FindsLiveInBlock (by_list vars whole l.kept.list) l.third (block_of (map plain_stmt (drop l.left l.stmts))) l.initial.wanted l.initial.lives l.wanted l.lives;
    }

abbrev pub decreases-live_in_body-loop-left : goal.decreases-live_in_body-loop-left
decreases-live_in_body-loop-left l = l.left
