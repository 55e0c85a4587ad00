use Rattle.std.proofs.Common.{◌+◌, ◌*◌, ◌≤◌}
use Rattle.tcel_flow.specs.Backward.{from_end}
use Rattle.tcel_slice.specs.Keeping.{Keeps}
use Rattle.tcel_slice.proofs.keeping.+keeping.Given as goal

abbrev pub decreases-before_branch : goal.decreases-before_branch
decreases-before_branch l = 2 * l.count

abbrev pub decreases-before_choice : goal.decreases-before_choice
decreases-before_choice l = 2 * l.count + 1

abbrev pub invariant-before_branch-loop-left : goal.invariant-before_branch-loop-left
invariant-before_branch-loop-left l =
    record {
      within : l.left ≤ l.count;
      keeps : Keeps (from_end l.steps l.count) (from_end l.steps l.left) l.fn.behind l.initial.list l.needed l.list;
    }

abbrev pub decreases-before_branch-loop-left : goal.decreases-before_branch-loop-left
decreases-before_branch-loop-left l = l.left
