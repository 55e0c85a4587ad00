-- A form has one plan at most: greatest numbers are unique.
use Rattle.std.proofs.Common.{◌≡◌, ℕ, ◌+◌, Bool, true, false, List, [], ◌∷◌, ◌++◌, le_antisymm, sym, ap, ◌∙◌, subst, Option, Some, None}
use Rattle.std.specs.Prelude.{MatchBool}
use Rattle.tcel_num.specs.Plan.{Plan, Point, PointName, before, within, frame}
use Rattle.tcel_core.specs.declared.var.Var.{Var}
use Rattle.tcel_core.specs.Contents.{has_event, hold_of}
use Rattle.tcel_core.specs.Language.{Window, Block, done, next, Stmt, item, choice, timed}
use Rattle.tcel_target.specs.declared.costs.Costs.{Costs}
use Rattle.tcel_cost.specs.Expressions.{expr_cycles}
use Rattle.tcel_cost.specs.Forms.{Form}
use Rattle.tcel_cost.specs.Plans.{AreBlockPoints, ArePlans, ArePoints, AreStmtPoints, IsPlan, IsPointFor}
use Rattle.tcel_cost.specs.Walks.{Counts, IsFirstCount, IsGreatest, IsGreatestIfAny, IsLastCount, IsTotal, StmtWalks, Walks, held_entry}

greatest_is : (P : ℕ → Type 0) (n m : ℕ) → IsGreatest P n → IsGreatest P m → n ≡ m
greatest_is P n m h g = le_antisymm (g.greatest n h.there) (h.greatest m g.there)

if_any_is : (P : ℕ → Type 0) (n m : ℕ) → IsGreatestIfAny P (Some n) → IsGreatestIfAny P (Some m) → n ≡ m
if_any_is P n m h g = greatest_is P n m h g

pub total_is : (walks : Counts) (entry n m : ℕ) → IsTotal walks entry n → IsTotal walks entry m → n ≡ m
total_is walks entry n m h g = le_antisymm (g.greatest n h.there) (h.greatest m g.there)

-- ---- points

abbrev AreUnique : (List Point → Type 0) → Type 0
AreUnique P = (a b : List Point) → P a → P b → a ≡ b

point_is : (name : PointName) (prefix : Option ℕ → Type 0) → ((n m : ℕ) → prefix (Some n) → prefix (Some m) → n ≡ m) → (bound : Option ℕ) →
    AreUnique (IsPointFor name prefix bound)
point_is name prefix one None a b h g = h ∙ sym g
point_is name prefix one (Some bound) a b h g =
    h.2 ∙ ap (λ n. let p : Point = record { prefix = n; bound = bound; name = name } in p ∷ []) (one h.0 g.0 h.1 g.1) ∙ sym g.2

both_parts : {a b c d : List Point} → a ≡ b → c ≡ d → a ++ c ≡ b ++ d
both_parts {a = a} {b = b} {c = c} {d = d} e f = ap (λ l. l ++ c) e ∙ ap (λ l. b ++ l) f

own_are : (walks : Counts) (entry id : ℕ) (window : Window) → AreUnique (AreBlockPoints walks entry window id)
own_are walks entry id window a b h g =
    h.4
    ∙ both_parts
    (point_is (before id) (IsFirstCount walks entry) (if_any_is _) window.before h.0 g.0 h.2 g.2)
    (point_is (within id) (IsLastCount walks entry) (if_any_is _) window.within h.1 g.1 h.3 g.3)
    ∙ sym g.4

own_or_none : (some : Bool) (walks : Counts) (entry id : ℕ) (window : Window) → AreUnique (λ own. MatchBool some (AreBlockPoints walks entry window id own) (own ≡ []))
own_or_none true walks entry id window a b h g = own_are walks entry id window a b h g
own_or_none false walks entry id window a b h g = h ∙ sym g

mutual
  pub points_are : (b : Block) (vars : List Var) (costs : Costs) (entry : ℕ) → AreUnique (ArePoints b vars costs entry)
  points_are done vars costs entry p q h g = h ∙ sym g
  points_are (next s rest) vars costs entry p q h g =
      let middle = total_is (StmtWalks s vars costs) entry h.1 g.1 h.4 g.4 in
      h.6
      ∙ both_parts (stmt_points_are s vars costs entry h.0 g.0 h.3 g.3)
      (points_are rest vars costs g.1 h.2 g.2 (subst (λ n. ArePoints rest vars costs n h.2) middle h.5) g.5)
      ∙ sym g.6

  stmt_points_are : (s : Stmt) (vars : List Var) (costs : Costs) (entry : ℕ) → AreUnique (AreStmtPoints s vars costs entry)
  stmt_points_are (item id act) vars costs entry p q h g = h ∙ sym g
  stmt_points_are (choice id test held other) vars costs entry p q h g =
      let inner = entry + (expr_cycles costs test + costs.branch) in
      h.4 ∙ both_parts (points_are held vars costs inner h.0 g.0 h.2 g.2) (points_are other vars costs inner h.1 g.1 h.3 g.3) ∙ sym g.4
  stmt_points_are (timed id window body) vars costs entry p q h g =
      let inner = held_entry (hold_of window body) entry in
      h.4
      ∙ both_parts (own_or_none (has_event body) (Walks body vars costs) inner id window h.0 g.0 h.2 g.2) (points_are body vars costs inner h.1 g.1 h.3 g.3)
      ∙ sym g.4

-- ---- plans

same_plan : (a b : Plan) → a.period ≡ b.period → a.total ≡ b.total → a.points ≡ b.points → a ≡ b
same_plan a b period total points =
    ap (λ n. let p : Plan = record { period = n; total = a.total; points = a.points } in p) period
    ∙ ap (λ n. let p : Plan = record { period = b.period; total = n; points = a.points } in p) total
    ∙ ap (λ n. let p : Plan = record { period = b.period; total = b.total; points = n } in p) points

pub plan_is : (form : Form) (costs : Costs) (a b : Plan) → IsPlan form costs a → IsPlan form costs b → a ≡ b
plan_is form costs a b h g =
    let parts = form.parts in
    let first = total_is (Walks parts.first parts.vars costs) costs.dispatch h.first g.first h.first_total g.first_total in
    let rest = total_is (Walks parts.rest parts.vars costs) 0 h.rest g.rest h.rest_total g.rest_total in
    let windows = points_are parts.first parts.vars costs costs.dispatch h.windows g.windows h.in_text g.in_text in
    same_plan a b (h.period ∙ sym g.period)
    (h.total ∙ ap (λ n. n + costs.mark + h.rest + costs.end) first ∙ ap (λ n. g.first + costs.mark + n + costs.end) rest ∙ sym g.total)
    (h.points
    ∙ ap (λ n. let p : Point = record { prefix = n + costs.mark; bound = form.task.deadline; name = frame } in p ∷ h.windows) first
    ∙ ap (λ l. let p : Point = record { prefix = g.first + costs.mark; bound = form.task.deadline; name = frame } in p ∷ l) windows
    ∙ sym g.points)

pub plans_are : (forms : List Form) (costs : Costs) (a b : List Plan) → ArePlans forms costs a → ArePlans forms costs b → a ≡ b
plans_are [] costs a b h g = h ∙ sym g
plans_are (form ∷ forms) costs [] b h g = absurd h
plans_are (form ∷ forms) costs (p ∷ a) [] h g = absurd g
plans_are (form ∷ forms) costs (p ∷ a) (q ∷ b) h g =
    ap (λ x. x ∷ a) (plan_is form costs p q h.0 g.0) ∙ ap (λ l. q ∷ l) (plans_are forms costs a b h.1 g.1)
