-- How the points of the blocks in a body are found: each by the total before it.
use Rattle.std.specs.Prelude.{ℕ, ◌+◌, List, [], ◌∷◌, ◌++◌, Option, None, Some}
use Rattle.tcel_num.specs.Plan.{Plan, Point, PointName, before, frame, within}
use Rattle.tcel_core.specs.declared.var.Var.{Var}
use Rattle.tcel_core.specs.Contents.{hold_of}
use Rattle.tcel_core.specs.Language.{Window, Block, done, next, Stmt, item, choice, timed}
use Rattle.tcel_target.specs.declared.costs.Costs.{Costs}
use Rattle.tcel_cost.specs.declared.numbers.Cost.{Cost}
use Rattle.tcel_cost.specs.CostSteps.{block_cost, entered, stmt_cost}
use Rattle.tcel_cost.specs.Expressions.{expr_cycles}
use Rattle.tcel_cost.specs.Walks.{held_entry}

-- a point where both the clause and the count are there
abbrev pub point_at : PointName → Option ℕ → Option ℕ → List Point
point_at name None bound = []
point_at name (Some count) None = []
point_at name (Some count) (Some bound) = record { prefix = count; bound = bound; name = name } ∷ []

-- the two points of a block with this cost
abbrev pub own_points : ℕ → Window → Cost → List Point
own_points id window c = point_at (before id) c.first window.before ++ point_at (within id) c.last window.within

abbrev mutual
  pub block_points : Block → List Var → Costs → ℕ → List Point
  block_points done vars costs entry = []
  block_points (next s rest) vars costs entry =
      stmt_points s vars costs entry ++ block_points rest vars costs (stmt_cost s vars costs (entered entry)).total

  pub stmt_points : Stmt → List Var → Costs → ℕ → List Point
  stmt_points (item id act) vars costs entry = []
  stmt_points (choice id test taken other) vars costs entry =
      let inner = expr_cycles costs test + costs.branch + entry in
      block_points taken vars costs inner ++ block_points other vars costs inner
  stmt_points (timed id window body) vars costs entry =
      let inner = held_entry (hold_of window body) entry in
      own_points id window (block_cost body vars costs (entered inner)) ++ block_points body vars costs inner

-- the plan of frames with this period and deadline: their first part with its variables, and the cycles of the rest
abbrev pub plan_by : ℕ → ℕ → Block → ℕ → List Var → Costs → Plan
plan_by period deadline first rest vars costs =
    let total = (block_cost first vars costs (entered costs.dispatch)).total in
    record {
      period = period;
      total = total + costs.mark + rest + costs.end;
      points = record { prefix = total + costs.mark; bound = deadline; name = frame } ∷ block_points first vars costs costs.dispatch;
    }
