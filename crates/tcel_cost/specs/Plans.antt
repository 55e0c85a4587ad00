-- The plans of tasks, in any form.
use Rattle.std.specs.Prelude.{◌≡◌, ℕ, ◌+◌, List, [], ◌∷◌, ◌++◌, Option, None, Some, MatchBool}
use Rattle.tcel_num.specs.Plan.{Plan, Point, PointName, frame, before, within}
use Rattle.tcel_core.specs.declared.var.Var.{Var}
use Rattle.tcel_core.specs.Language.{Window, Block, done, next, Stmt, item, choice, timed}
use Rattle.tcel_target.specs.declared.costs.Costs.{Costs}
use Rattle.tcel_core.specs.Contents.{has_event, hold_of}
use Rattle.tcel_cost.specs.Expressions.{expr_cycles}
use Rattle.tcel_cost.specs.Forms.{Form}
use Rattle.tcel_cost.specs.Walks.{Counts, Walks, StmtWalks, IsTotal, IsFirstCount, IsLastCount, held_entry}

-- a point for a bound, where the clause is written, with the prefix that its rule gives
abbrev pub IsPointFor : PointName → (Option ℕ → Type 0) → Option ℕ → List Point → Type 0
IsPointFor name prefix None points = points ≡ []
IsPointFor name prefix (Some bound) points =
    (count : ℕ) × prefix (Some count) × (points ≡ record { prefix = count; bound = bound; name = name } ∷ [])

-- the points of a `do` block that is entered at a count: `start before` at its first event, then `finish within` at its last
abbrev pub AreBlockPoints : Counts → ℕ → Window → ℕ → List Point → Type 0
AreBlockPoints walks entry window id points =
    (starts : List Point) × (ends : List Point) × IsPointFor (before id) (IsFirstCount walks entry) window.before starts
    × IsPointFor (within id) (IsLastCount walks entry) window.within ends × (points ≡ starts ++ ends)

-- the points of the blocks in statements that are entered at a count, in text order; a block without an event has none
abbrev mutual
  pub ArePoints : Block → List Var → Costs → ℕ → List Point → Type 0
  ArePoints done vars costs entry points = points ≡ []
  ArePoints (next s rest) vars costs entry points =
      (first : List Point) × (middle : ℕ) × (others : List Point) × AreStmtPoints s vars costs entry first
      × IsTotal (StmtWalks s vars costs) entry middle × ArePoints rest vars costs middle others × (points ≡ first ++ others)

  pub AreStmtPoints : Stmt → List Var → Costs → ℕ → List Point → Type 0
  AreStmtPoints (item id act) vars costs entry points = points ≡ []
  AreStmtPoints (choice id test held other) vars costs entry points =
      let inner = entry + (expr_cycles costs test + costs.branch) in
      (yes : List Point) × (no : List Point) × ArePoints held vars costs inner yes × ArePoints other vars costs inner no
      × (points ≡ yes ++ no)
  AreStmtPoints (timed id window body) vars costs entry points =
      let inner = held_entry (hold_of window body) entry in
      (own : List Point) × (nested : List Point)
      × MatchBool (has_event body) (AreBlockPoints (Walks body vars costs) inner window id own) (own ≡ [])
      × ArePoints body vars costs inner nested
      × (points ≡ own ++ nested)

-- the plan of a form: the first part, which is entered when the frame has started, the mark, the rest and the end; the frame's point at the mark,
-- and the points of the blocks of the first part
pub record IsPlan (form : Form) (costs : Costs) (plan : Plan) : Type 0 where
  pub period : plan.period ≡ form.task.period
  pub first : ℕ
  pub first_total : IsTotal (Walks form.parts.first form.parts.vars costs) costs.dispatch first
  pub rest : ℕ
  pub rest_total : IsTotal (Walks form.parts.rest form.parts.vars costs) 0 rest
  pub total : plan.total ≡ first + costs.mark + rest + costs.end
  pub windows : List Point
  pub in_text : ArePoints form.parts.first form.parts.vars costs costs.dispatch windows
  pub points : plan.points ≡ record { prefix = first + costs.mark; bound = form.task.deadline; name = frame } ∷ windows

-- the plans of a set
abbrev pub ArePlans : List Form → Costs → List Plan → Type 0
ArePlans [] costs plans = plans ≡ []
ArePlans (form ∷ forms) costs [] = ⊥
ArePlans (form ∷ forms) costs (plan ∷ plans) = IsPlan form costs plan × ArePlans forms costs plans
