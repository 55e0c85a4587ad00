-- What a walk through a body keeps: the least mark so far, and how many nodes and `do` blocks may still come.
use Rattle.std.specs.Prelude.{◌≡◌, ℕ, ◌-◌, ◌==◌, List, [], ◌++◌, Option, fold}
use Rattle.std.specs.List.{AllByRecursion}
use Rattle.tcel_num.specs.declared.at.At.{At}
use Rattle.tcel_tree.specs.declared.task.DeclKind.{DeclKind}
use Rattle.tcel_check.specs.declared.fail.LimitKind.{LimitKind}
use Rattle.tcel_check.specs.declared.fail.LimitKind.TheVariants.{Nodes, Windows}
use Rattle.tcel_check.specs.declared.mark.Mark.{Mark}
use Rattle.tcel_check.specs.declared.walk.Walk.{Walk}
use Rattle.tcel_check.specs.Least.{kept_all}
use Rattle.tcel_check.specs.Marks.{limit}
use Rattle.tcel_check.specs.Rows.{sight_marks, when}
use Rattle.tcel_check.specs.Spelled.{IsSpelled}
use Rattle.tcel_check.specs.Sights.{Sight, node, window}

-- a limit that stands here where just one more may come
abbrev pub last : LimitKind → ℕ → At → List Mark
last kind left at = when (left == 1) (limit kind at)

abbrev pub counted : Walk → Sight → List Mark
counted w (node at) = last Nodes w.nodes at
counted w (window at loops) = last Windows w.windows at
counted w _ = []

abbrev pub nodes_behind : ℕ → Sight → ℕ
nodes_behind left (node at) = left - 1
nodes_behind left _ = left

abbrev pub windows_behind : ℕ → Sight → ℕ
windows_behind left (window at loops) = left - 1
windows_behind left _ = left

abbrev pub behind : (List ℕ → Option DeclKind) → Walk → Sight → Walk
behind kind w s =
    record {
      nodes = nodes_behind w.nodes s;
      windows = windows_behind w.windows s;
      least = kept_all w.least (counted w s ++ sight_marks kind s);
    }

-- a walk through these sights
pub record Saw (kind : List ℕ → Option DeclKind) (old new : Walk) (sights : List Sight) : Type 0 where
  pub state : new ≡ fold (behind kind) old sights
  pub spelled : AllByRecursion IsSpelled sights
